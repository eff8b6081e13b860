use Rattle.refusal.specs.declared.Refusal.{Refusal}
use Rattle.std.specs.Prelude.{Result, Ok}
use mathlib.Core.List.{List}
use Prim.Native.Nat.{ℕ}
use Rattle.wire.specs.Room.{Wrote, patch}
use Rattle.wire.specs.RoomLaws.{has_yes, patch-append, wrote_next, wrote_left, wrote_place, wrote_refused}
use Rattle.wire.specs.LenEncLaws.{len_length}
use Rattle.wire.specs.LenEnc.{len_bytes, str_bytes}
use native.Mathlib.Omega.{arith}
use lib.ListN.{length, length-append}
use Prim.Native.Nat.{◌+◌, ◌≤◌}
use mathlib.Core.Path.{◌≡◌}
use Rattle.wire.proofs.put_lenenc_str.Goals as goal

-- the length, then the bytes
written : (bs d : List ℕ) (at : ℕ) {n : ℕ} {r : Result ℕ Refusal} {d₁ d₂ : List ℕ} → n ≡ length (len_bytes (length bs)) → at + (n + length bs) ≤ length d
    → Wrote (len_bytes (length bs)) d at r d₁ → d₂ ≡ patch d₁ (at + n) bs → Wrote (str_bytes bs) d at (Ok (at + n + length bs)) d₂
written bs d at {n} {r} {d₁} {d₂} e h w p =
    let k : at + (length (len_bytes (length bs)) + length bs) ≤ length d = omega arith in
    let f : d₁ ≡ patch d at (len_bytes (length bs)) = wrote_left w (omega arith) in
    wrote_next (str_bytes bs) d at (at + n + length bs) d₂
    (simp length-append (omega arith))
    (simp length-append (omega arith))
    (rw (p, f, e) (patch-append d at (len_bytes (length bs)) bs k))

pub overflow_add-head : goal.overflow_add-head
overflow_add-head c = omega (arith, len_length (length c.args.src.now))

pub returns-in_err-body : goal.returns-in_err-body
returns-in_err-body c =
    let a = c.args in
    let n = c.lenenc_int_len-head.ensures in
    let h = has_yes (a.at + (c.lenenc_int_len-head.result + length a.src.now)) (length a.dst.now) c.has.ensures c.if-not-has.false in
    absurd (wrote_refused c.in_err-body.ensures (omega arith))

pub returns : goal.returns
returns c =
    let a = c.args in
    let n = c.lenenc_int_len-head.ensures in
    let h = has_yes (a.at + (c.lenenc_int_len-head.result + length a.src.now)) (length a.dst.now) c.has.ensures c.if-not-has.false in
    let e : c.in_ok-body.body ≡ a.at + c.lenenc_int_len-head.result = omega (arith, wrote_place c.in_ok-body.ensures (omega arith)) in
    rw e (written a.src.now a.dst.now a.at n h c.put_lenenc_int.ensures (rw e at c.copy.ensures))
