-- Bytes moved inside a list.
use Rattle.std.proofs.Common.{◌≡◌, ℕ, zero, suc, ◌+◌, ◌-◌, ◌≤◌, List, [], ◌∷◌, ◌++◌, length, take, drop, sym, ap, ◌∙◌}
use Rattle.std.proofs.Common.{arith, length-append, length-drop, length-take, take_all, drop-drop}
use Rattle.std.proofs.Common.{take_at, take-append-drop, take-add}
use native.Mathlib.Nat.{sub-zero}
use lib.Seq.{drop-append-add}
use Rattle.std.specs.List.{copy_within}
use Rattle.wire.specs.Room.{patch}

-- bytes moved by the library
pub moved : (d : List ℕ) (at from n : ℕ) → from + n ≤ length d → copy_within d from (from + n) at ≡ patch d at (take n (drop from d))
moved d at from n h =
    let z : from + n - from ≡ n = omega arith in
    let l : length (take n (drop from d)) ≡ n = rw (length-take, length-drop) (omega arith) in
    rw (z, l)

-- what stays where it is
pub patch_same : (s : List ℕ) (at n : ℕ) → at + n ≤ length s → s ≡ patch s at (take n (drop at s))
patch_same s at n h =
    let l : length (take n (drop at s)) ≡ n = rw (length-take, length-drop) (omega arith) in
    rw (l, ← take-add at n s, take-append-drop)

-- what lies before and behind some bytes that were put
pub take-patch : (d : List ℕ) (at : ℕ) (bs : List ℕ) → at ≤ length d → take (at + length bs) (patch d at bs) ≡ take at d ++ bs
take-patch d at bs h =
    let l : length (take at d ++ bs) ≡ at + length bs = rw (length-append, length-take) (omega arith) in
    take_at (take at d ++ bs) (drop (at + length bs) d) (at + length bs) l

pub drop-patch : (d : List ℕ) (at : ℕ) (bs : List ℕ) (n : ℕ) → at ≤ length d → at + length bs ≤ n → drop n (patch d at bs) ≡ drop n d
drop-patch d at bs n h r =
    let l : length (take at d ++ bs) ≡ at + length bs = rw (length-append, length-take) (omega arith) in
    let e : n ≡ at + length bs + (n - (at + length bs)) = omega arith in
    let f : n ≡ length (take at d ++ bs) + (n - (at + length bs)) = omega (arith, l) in
    ap (λ (j : ℕ). drop j (patch d at bs)) f
    ∙ drop-append-add (take at d ++ bs) (drop (at + length bs) d) (n - (at + length bs))
    ∙ drop-drop (n - (at + length bs)) (at + length bs) d
    ∙ ap (λ (j : ℕ). drop j d) (sym e)

pub drop-take : (used n : ℕ) (s : List ℕ) → drop used (take n s) ≡ take (n - used) (drop used s)
drop-take zero n s = rw sub-zero
drop-take (suc used) zero s = let e : 0 - suc used ≡ 0 = omega arith in rw e
drop-take (suc used) (suc n) [] = sym (take_all (suc n - suc used) [] (omega arith))
drop-take (suc used) (suc n) (x ∷ s) = let e : suc n - suc used ≡ n - used = omega arith in rw e (drop-take used n s)
