-- What a call leaves of the packet buffer: some bytes are put behind those that the packet had, and all else is as it was.
use Rattle.std.specs.Prelude.{◌≡◌, ℕ, ◌+◌, ◌≤◌, Bool, true, false, List, [], ◌++◌, length, take, drop, ◌==◌, refl, Option}
use Rattle.std.proofs.Common.{sym, ap, ◌∙◌, append_assoc, append-nil, add-zero, arith, length-append, length-drop, length-take, take-append-drop, take_at, drop_at}
use Rattle.wire.specs.Room.{patch}
use Rattle.wire.specs.RoomLaws.{patch-append, length-patch}
use Rattle.chunk.specs.declared.PlainPacketCodec.{PlainPacketCodec}
use Rattle.chunk.specs.Read.{Answered, need_more, packet, refused, Done, Turned, stop, took, turn_of, opened, later, read}
use Rattle.chunk.specs.ReadLaws.{by_test, took_more, took_last, Kept, turn_ends, opened-stop, opened_more, read-closed, read_open}
use Rattle.chunk.specs.ResumeLaws.{by_turns}

-- the bytes of the packet after a call: all of a whole packet, else those that the state counts
abbrev pub reach_by : Answered → ℕ → ℕ
reach_by need_more n = n
reach_by (packet l) n = l
reach_by (refused k) n = n

abbrev pub reach : Done → ℕ
reach d = reach_by d.answer d.next.taken

pub record Keeps (st : PlainPacketCodec) (b : List ℕ) (d : Done) : Type 0 where
  pub wrote : List ℕ
  pub long : reach d ≡ st.taken + length wrote
  pub is : d.buf ≡ patch b st.taken wrote
  pub fits : st.taken ≤ length b → reach d ≤ length b
  pub same : length d.buf ≡ length b

-- nothing is written
patch_none : (b : List ℕ) (at : ℕ) → b ≡ patch b at []
patch_none b at = rw (append-nil, add-zero, take-append-drop)

none_keeps : (st : PlainPacketCodec) (b : List ℕ) (a : Answered) (n : ℕ) (st' : PlainPacketCodec) → reach_by a st'.taken ≡ st.taken
    → Keeps st b (record { answer = a; used = n; next = st'; buf = b })
none_keeps st b a n st' k = record {
  wrote = [];
  long = rw (k, add-zero);
  is = patch_none b st.taken;
  fits = λ h. rw k h;
  same = refl;
}

-- a turn; and where the packet goes on, what it has fits
record Turns (st : PlainPacketCodec) (b : List ℕ) (t : Turned) : Type 0 where
  pub done : Keeps st b t.done
  pub room : t.more ≡ true → t.done.next.taken ≤ length b
  pub asks : t.more ≡ true → reach t.done ≡ t.done.next.taken

took_keeps : (m : ℕ) (st st' : PlainPacketCodec) (len num : ℕ) (u b : List ℕ) → Kept st st' → len + 4 ≤ length u → st'.taken + len ≤ length b
    → Turns st b (took m st' len num u b)
unfolding took
took_keeps m st st' len num u b k h r =
    let w : List ℕ = take len (drop 4 u) in
    let l : length w ≡ len = rw (length-take, length-drop) (omega arith) in
    let long : st'.taken + len ≡ st.taken + length w = rw (l, k.0) in
    let is : patch b st'.taken w ≡ patch b st.taken w = rw k.0 in
    let same : length (patch b st'.taken w) ≡ length b = length-patch b st'.taken w (omega arith) in
    by_test (Turns st b) (len == m) (took_more st' len num u b) (took_last st' len num u b)
    (λ _. record { done = record { wrote = w; long = long; is = is; fits = λ _. r; same = same }; room = λ _. r; asks = λ _. refl })
    (λ _. record {
      done = record { wrote = w; long = long; is = is; fits = λ _. r; same = same };
      room = λ e. absurd (let z : ◌≡◌ {A = ℕ} 0 1 = cc in omega arith);
      asks = λ e. absurd (let z : ◌≡◌ {A = ℕ} 0 1 = cc in omega arith);
    })

turn_keeps : (m : ℕ) (x : Option ℕ) (st : PlainPacketCodec) (u b : List ℕ) → Turns st b (turn_of m x st u b)
turn_keeps m x st u b =
    turn_ends (Turns st b) m x st u b
    (record {
      wants = λ st' k. stops need_more st' k.0;
      refuses = λ n st' k. stops (refused n) st' k;
      takes = λ st' k len num h r. took_keeps m st st' len num u b k h r;
    })
  where
    stops : (a : Answered) (st' : PlainPacketCodec) → reach_by a st'.taken ≡ st.taken → Turns st b (stop a st' b)
    stops a st' k = record {
      done = none_keeps st b a 0 st' k;
      room = λ e. absurd (let z : ◌≡◌ {A = ℕ} 0 1 = cc in omega arith);
      asks = λ e. absurd (let z : ◌≡◌ {A = ℕ} 0 1 = cc in omega arith);
    }

module _ (m : ℕ) (x : Option ℕ) where
  abbrev Call : PlainPacketCodec → List ℕ → List ℕ → Type 0
  Call st u b = Keeps st b (opened m x st u b)

  keeps_last : (st : PlainPacketCodec) (u b : List ℕ) → (turn_of m x st u b).more ≡ false → Call st u b
  keeps_last st u b e = rw (opened-stop m x st u b e) (turn_keeps m x st u b).done

  -- one turn and then the rest
  joined : (st : PlainPacketCodec) (b : List ℕ) (t : Turned) (d : Done) → t.more ≡ true → Turns st b t → Keeps t.done.next t.done.buf d
      → Keeps st b (later t.done.used d)
  joined st b t d e k r =
      let w : List ℕ = k.done.wrote in
      let at : t.done.next.taken ≡ st.taken + length w = sym (k.asks e) ∙ k.done.long in
      let f : reach d ≤ length b = omega (arith, r.fits (omega (arith, k.room e, k.done.same)), k.done.same) in
      let lw : length (w ++ r.wrote) ≡ length w + length r.wrote = length-append w r.wrote in
      let fw : st.taken + (length w + length r.wrote) ≤ length b = omega (arith, r.long, at, f) in
      record {
        wrote = w ++ r.wrote;
        long = omega (arith, r.long, at, lw);
        is =
            r.is
            ∙ ap (λ (y : List ℕ). patch y t.done.next.taken r.wrote) k.done.is
            ∙ ap (λ (j : ℕ). patch (patch b st.taken w) j r.wrote) at
            ∙ patch-append b st.taken w r.wrote fw;
        fits = λ _. f;
        same = r.same ∙ k.done.same;
      }

  keeps_more : (st : PlainPacketCodec) (u b : List ℕ) → (turn_of m x st u b).more ≡ true
      → Call (turn_of m x st u b).done.next (drop (turn_of m x st u b).done.used u) (turn_of m x st u b).done.buf → Call st u b
  keeps_more st u b e ih =
      rw (opened_more m x st u b e)
      (joined st b (turn_of m x st u b) (opened m x (turn_of m x st u b).done.next (drop (turn_of m x st u b).done.used u)
      (turn_of m x st u b).done.buf) e (turn_keeps m x st u b) ih)

  pub opened_keeps : (st : PlainPacketCodec) (u b : List ℕ) → Keeps st b (opened m x st u b)
  opened_keeps = by_turns Call m x keeps_last keeps_more

  keeps_by : (st : PlainPacketCodec) (u b : List ℕ) (c : Bool) → st.closed ≡ c → Keeps st b (read m x st u b)
  keeps_by st u b true c = rw (read-closed m x st u b c) (none_keeps st b (refused 7) 0 st refl)
  keeps_by st u b false c = rw (read_open m x st u b c) (opened_keeps st u b)

  -- a call's buffer is the one lent, with some bytes put where the packet's bytes ended: those that it has more
  pub keeps : (st : PlainPacketCodec) (u b : List ℕ) → Keeps st b (read m x st u b)
  keeps st u b = keeps_by st u b st.closed refl

-- ---- so the packet's earlier bytes stay, and what lies past its bytes then

pub keeps_before : {st : PlainPacketCodec} {b : List ℕ} {d : Done} → Keeps st b d → st.taken ≤ length b → take st.taken d.buf ≡ take st.taken b
keeps_before {st} {b} {d} k h =
    let l : length (take st.taken b) ≡ st.taken = rw length-take (omega arith) in
    ap (take st.taken) (k.is ∙ append_assoc (take st.taken b) k.wrote (drop (st.taken + length k.wrote) b))
    ∙ take_at (take st.taken b) (k.wrote ++ drop (st.taken + length k.wrote) b) st.taken l

pub keeps_behind : {st : PlainPacketCodec} {b : List ℕ} {d : Done} → Keeps st b d → st.taken ≤ length b → drop (reach d) d.buf ≡ drop (reach d) b
keeps_behind {st} {b} {d} k h =
    let l : length (take st.taken b ++ k.wrote) ≡ st.taken + length k.wrote = rw (length-append, length-take) (omega arith) in
    rw (k.long, k.is) (drop_at (take st.taken b ++ k.wrote) (drop (st.taken + length k.wrote) b) (st.taken + length k.wrote) l)
