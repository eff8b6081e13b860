-- The host, over any reader: it keeps the unread bytes, appends each piece that arrives, and calls the reader until it has no packet
-- left. S is the type of the reader's state.
use Rattle.std.specs.Prelude.{ℕ, zero, suc, List, [], ◌∷◌, ◌++◌, length, take, drop}
use Rattle.chunk.specs.Read.{Answered, need_more, packet, refused}

-- what the host sees, in order: a packet's bytes, or a refusal's number
pub data Event : Type 0 where
  handed : List ℕ → Event
  refusal : ℕ → Event

-- one call of a reader: its answer, the bytes used, and what the state and the packet buffer are then
pub record Called (S : Type 0) : Type 0 where
  pub answer : Answered
  pub used : ℕ
  pub next : S
  pub buf : List ℕ

abbrev pub Reader : Type 0 → Type 0
Reader S = S → (u b : List ℕ) → Called S

-- what the host does after each packet: something to the reader's state, and which buffer it lends from then on. It may lend the
-- same or another, with any content: `lends` has the number of packets handed out and the buffer as it was left
pub record Habit (S : Type 0) : Type 0 where
  pub acts : S → S
  pub lends : ℕ → List ℕ → List ℕ

-- what a host has seen, and then has: how many packets it was handed, the reader's state, the unread bytes and the buffer
pub record Host (S : Type 0) : Type 0 where
  pub events : List Event
  pub packets : ℕ
  pub state : S
  pub unread : List ℕ
  pub buffer : List ℕ

abbrev pub first : {S : Type 0} → Event → Host S → Host S
first e h = record { events = e ∷ h.events; packets = h.packets; state = h.state; unread = h.unread; buffer = h.buffer }

abbrev pub joined : {S : Type 0} → List Event → Host S → Host S
joined es h = record { events = es ++ h.events; packets = h.packets; state = h.state; unread = h.unread; buffer = h.buffer }

-- the host after one call, with what it sees in the calls behind a packet
abbrev pub after_call : {S : Type 0} → Habit S → ℕ → List ℕ → Called S → (Host S) → Answered → Host S
after_call habit n u c behind need_more = record { events = []; packets = n; state = c.next; unread = drop c.used u; buffer = c.buf }
after_call habit n u c behind (refused k) = record { events = refusal k ∷ []; packets = n; state = c.next; unread = drop c.used u; buffer = c.buf }
after_call habit n u c behind (packet len) = first (handed (take len c.buf)) behind

module _ {S : Type 0} (r : Reader S) (habit : Habit S) where
  -- "called until it has no packet left": it stops at need more and at a refusal, f calls at the most
  unfoldable pub calls_up_to : ℕ → ℕ → S → (u b : List ℕ) → Host S
  calls_up_to zero n st u b = record { events = []; packets = n; state = st; unread = u; buffer = b }
  calls_up_to (suc f) n st u b =
      let c = r st u b in
      after_call habit n u c (calls_up_to f (suc n) (habit.acts c.next) (drop c.used u) (habit.lends n c.buf)) c.answer

  -- a packet takes bytes, so this bound is never met
  unfoldable pub calls : ℕ → S → (u b : List ℕ) → Host S
  calls n st u b = calls_up_to (suc (length u)) n st u b

  -- each piece in turn, behind the bytes that are still unread. A refusal does not stop the host: it goes on calling
  unfoldable pub serve : ℕ → S → (u b : List ℕ) → List (List ℕ) → Host S
  serve n st u b [] = record { events = []; packets = n; state = st; unread = u; buffer = b }
  serve n st u b (c ∷ cs) =
      let h = calls n st (u ++ c) b in
      joined h.events (serve h.packets h.state h.unread h.buffer cs)
