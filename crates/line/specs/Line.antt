-- Demand 3. m is the piece size; S a reader's state, with r the reader, `idle l k` its idle state with limit l at number k, and
-- `number` its sequence number.
use Rattle.std.specs.Prelude.{ℕ, suc, ◌+◌, ◌-◌, ◌%◌, ◌≤◌, ◌<◌, ◌≡◌, cond, length, take, get_or, replicate, ltb, eqb}
use mathlib.Core.List.{List, [], ◌∷◌, ◌++◌, map, flatten}
use Rattle.line.specs.Host.{handed, refusal, Reader, Habit, serve}
use Rattle.line.specs.Arrivals.{arrived, Real, InPlace, Misplaced}
use Rattle.line.specs.Written.{written, writer, complete, begun}

-- a reader, and what the statement has to know of its states
pub record End (S : Type 0) : Type 0 where
  pub reader : Reader S
  pub idle : (limit number : ℕ) → S
  pub number : S → ℕ

-- "Two idle ends start at one sequence number", k; "one writes packets no longer than the reader's limit", ps and l; every arrival is a
-- chunk that was written
pub record Sent (m k l : ℕ) (ps : List (List ℕ)) (a : List ℕ) : Type 0 where
  pub start : k < 256
  pub fit : (j : ℕ) → j < length ps → length (get_or ps j []) ≤ l
  pub real : Real (written m k ps) a

-- "a reader lent one buffer of at least its limit", b, and after a packet whatever the host lends, again of at least the limit; the host
-- does nothing else between its calls (no reset)
pub record Given (S : Type 0) (m k l : ℕ) (b : List ℕ) (habit : Habit S) (ps : List (List ℕ)) (a : List ℕ) : Type 0 where
  pub sent : Sent m k l ps a
  pub room : l ≤ length b
  pub lent : (n : ℕ) (d : List ℕ) → l ≤ length d → l ≤ length (habit.lends n d)
  pub acts : (st : S) → habit.acts st ≡ st

-- the refusal of misplaced arrival i: 2 exactly when its chunk is not empty and the bytes of the packet so far and its length exceed
-- the limit, else 3
abbrev pub refusal_of : (m k l : ℕ) (ps : List (List ℕ)) (a : List ℕ) (i : ℕ) → ℕ
refusal_of m k l ps a i =
    let len = length (get_or (written m k ps) (get_or a i 0) []) - 4 in
    cond (eqb len 0) 3 (cond (ltb l (begun m ps i + len)) 2 3)

pub record Line (m : ℕ) (S : Type 0) (end : End S) : Type 0 where
  -- "However the bytes are cut" into pieces, any t bytes that hold the misplaced chunk: "exactly the packets that end before that
  -- arrival, in order", then a refusal "by the time that chunk is complete", "and nothing after": only 7, as often as it is called
  pub misplaced : (k l : ℕ) (b : List ℕ) (habit : Habit S) (ps : List (List ℕ)) (a : List ℕ) → Given S m k l b habit ps a
      → (i : ℕ) → Misplaced a i
      → (t : ℕ) → length (arrived (written m k ps) (take (suc i) a)) ≤ t
      → (pieces : List (List ℕ)) → flatten pieces ≡ take t (arrived (written m k ps) a)
      → (n : ℕ)
      × ((serve end.reader habit 0 (end.idle l k) [] b pieces).events
      ≡ map handed (complete m ps i) ++ (refusal (refusal_of m k l ps a i) ∷ replicate n (refusal 7)))
  -- "If none is out of place, it hands out every packet whose chunks all came", and no refusal; "its number is behind the writer's by
  -- the chunks missing at the end, modulo 256"
  pub in_place : (k l : ℕ) (b : List ℕ) (habit : Habit S) (ps : List (List ℕ)) (a : List ℕ) → Given S m k l b habit ps a
      → InPlace a
      → (pieces : List (List ℕ)) → flatten pieces ≡ arrived (written m k ps) a
      → ((serve end.reader habit 0 (end.idle l k) [] b pieces).events ≡ map handed (complete m ps (length a)))
      × (end.number (serve end.reader habit 0 (end.idle l k) [] b pieces).state < 256)
      × ((end.number (serve end.reader habit 0 (end.idle l k) [] b pieces).state + (length (written m k ps) - length a)) % 256 ≡ writer m k ps)
