-- The bytes of a good stretch are its packets, to chunk's plain reader.
use Rattle.std.specs.Prelude.{◌≡◌, ℕ, suc, ◌+◌, ◌<◌, ◌≤◌, List, length, take, drop, slice_index_or, None}
use Rattle.std.proofs.Math.Path.{refl, ap}
use Rattle.std.proofs.Common.{sym, ◌∙◌, length-drop, take-take, take-add, drop_at, length-take-le, eq-eqb, ne_eqb, le-ltb}
use native.Mathlib.Omega.{arith}
use Rattle.std.proofs.Math.Decide.{dec_le}
use Rattle.std.proofs.Math.ListN.{length-take}
use Rattle.std.proofs.Math.Seq.{get_or-take}
use Rattle.wire.specs.Le.{le_of, le_at}
use Rattle.wire.specs.Room.{patch}
use Rattle.wire.specs.RoomLaws.{length-patch}
use Rattle.chunk.specs.Chunks.{largest, next}
use Rattle.chunk.specs.Read.{idle, holding, opening, opens, packet, took, turn_of, read}
use Rattle.chunk.specs.ReadLaws.{took_last, took_last_lem, headed_empty, headed_held, chunk-took, turn_headed, opened-stop, read_open}
use Rattle.salvage.specs.Salvage.{Run}
use Rattle.salvage.specs.Salvage.{run_on, given, stretches}
use Rattle.salvage.specs.SalvageLaws.{Whole, by_run, round_of}
use Rattle.salvage.specs.Report.{Each, reads_all, GoodReads}
use Rattle.salvage.specs.ReportLaws.{each_round}

-- ---- one call: a reader that is idle and lent a whole chunk with the number that it expects hands out its packet

-- the packet buffer then
abbrev buffer_of : List ℕ → ℕ → List ℕ → List ℕ
buffer_of u len b = patch b 0 (take len (drop 4 u))

module _ (limit expected len : ℕ) (u b : List ℕ) (n : le_at u 0 3 ≡ len) (k : slice_index_or u 3 0 ≡ expected) (there : len + 4 ≤ length u)
    (small : len ≤ limit) (below : limit < largest) (room : limit ≤ length b) where
  -- whether its header is remembered on the way or not
  call_takes : turn_of largest None (idle limit expected) u b ≡ took largest (idle limit expected) len expected u b
  unfolding took
  call_takes =
      let st = idle limit expected in
      let w : 0 + len ≤ length b = omega arith in
      turn_headed largest None st u b refl (omega arith)
      ∙ rw (n, k)
      (elim (dec_le len 0) [
        | yes z ↦
            let e : len ≡ 0 = omega arith in
            headed_empty largest None st len expected u b e
            ∙ chunk-took largest None st 0 expected u b (omega arith) (eq-eqb expected expected refl) (omega arith)
            ∙ ap (λ (j : ℕ). took largest st j expected u b) (sym e)
        | no z ↦
            headed_held largest None st len expected u b (λ y. z (omega arith)) (omega arith)
            ∙ chunk-took largest None (holding st len expected) len expected u b there (eq-eqb expected expected refl) w
      ])

  pub call_is :
      read largest None (idle limit expected) u b
      ≡ record { answer = packet (0 + len); used = len + 4; next = idle limit (next expected); buf = buffer_of u len b }
  call_is =
      let st = idle limit expected in
      let t : turn_of largest None st u b ≡ took_last st len expected u b = call_takes ∙ took_last_lem largest st len expected u b (λ e. omega arith) in
      read_open largest None st u b refl ∙ opened-stop largest None st u b (rw t) ∙ rw t

  pub call_buffer : length (buffer_of u len b) ≡ length b
  call_buffer =
      let w : length (take len (drop 4 u)) ≡ len = simp (length-take, length-drop) (omega arith) in
      length-patch b 0 (take len (drop 4 u)) (omega arith)

-- ---- a run: call after call

-- what is left of the first n + m elements behind n of them
rest_of : (n m : ℕ) (s : List ℕ) → n ≤ length s → drop n (take (n + m) s) ≡ take m (drop n s)
rest_of n m s h = rw take-add (drop_at (take n s) (take m (drop n s)) n (length-take-le n s h))

module _ (limit : ℕ) (below : limit < largest) where
  one_call : (s : List ℕ) (expected n : ℕ) (r : Run) → Whole limit expected n s
      → ((b : List ℕ) → limit ≤ length b → reads_all (idle limit (next expected)) (take r.bytes (drop n s)) b r.packets)
      → (b : List ℕ) → limit ≤ length b → reads_all (idle limit expected) (take (n + r.bytes) s) b (suc r.packets)
  unfolding reads_all
  one_call s expected n r w i b room =
      let len = le_at s 0 3 in
      let u = take (n + r.bytes) s in
      let size = w.size in
      let header : le_at u 0 3 ≡ len = ap le_of (take-take 3 (n + r.bytes) s (omega arith)) in
      let num : slice_index_or u 3 0 ≡ expected = get_or-take (n + r.bytes) s 3 0 (omega arith) ∙ w.numbered in
      let there : len + 4 ≤ length u = rw length-take (omega (arith, w.there)) in
      let left : drop (len + 4) u ≡ take r.bytes (drop n s) = rw (← size) (rest_of n r.bytes s w.there) in
      rw (call_is limit expected len u b header num there w.small below room)
      (refl, rw left (i (buffer_of u len b) (rw (call_buffer limit expected len u b header num there w.small below room) room)))

  pub run_reads : (s : List ℕ) (expected : ℕ) (b : List ℕ) → limit ≤ length b
      → reads_all (idle limit expected) (take (run_on limit expected s).bytes s) b (run_on limit expected s).packets
  unfolding reads_all
  run_reads =
      by_run limit (λ s expected r. (b : List ℕ) → limit ≤ length b → reads_all (idle limit expected) (take r.bytes s) b r.packets)
      (λ s expected h b room. refl)
      (λ s expected k h p e b room. refl)
      (λ s expected n r w i b room. let e : 1 + r.packets ≡ suc r.packets = omega arith in rw e (one_call s expected n r w i b room))

  -- the bytes of every good stretch, by themselves: exactly its packets, nothing refused, every byte used
  pub good_reads : (s : List ℕ) → Each (GoodReads limit s) (stretches limit s)
  unfolding round_of
  good_reads s = each_round (GoodReads limit s) limit s (λ offset h b room. run_reads (drop offset s) (given (drop offset s)) b room) (λ offset h. tt)

-- such a limit opens a reader, and that is the state above, with its number set
pub good_opens : (limit : ℕ) → 0 < limit → limit < largest → opening limit ≡ opens (idle limit 0)
unfolding opening
good_opens limit h below = rw (ne_eqb limit 0 (λ e. omega arith), le-ltb 1073741824 limit (omega arith))
