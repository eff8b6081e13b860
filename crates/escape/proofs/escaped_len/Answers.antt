use Rattle.std.proofs.Common.{rules}
use Rattle.std.specs.Prelude.{Option, None, Some, SomeIff, Result, Ok, Err}
use Rattle.std.specs.Option.{ok_or}
use Rattle.refusal.specs.declared.Refusal.{Refusal}
use Rattle.refusal.specs.declared.Refusal.TheVariants.{NoRoom}
use Rattle.refusal.specs.Said.{said_of, gives}
use Rattle.wire.specs.Room.{length_of}
use Rattle.escape.specs.QuoteLaws.{quoted-length}
use Rattle.escape.specs.Quote.{quoted}
use lib.ListN.{length}
use mathlib.Core.List.{List}
use borrow.Author.Tests.{lt-ltb, le-ltb}
use native.Mathlib.Omega.{arith}
use mathlib.Core.Path.{◌≡◌, ap, ◌∙◌}
use Prim.Native.Nat.{ℕ, ◌^◌, ◌<◌}
use Rattle.escape.proofs.escaped_len.Goals as goal

-- a sum that fits, or does not
fitted : (o : Option ℕ) (n k : ℕ) → ◌≡◌ {A = Result ℕ Refusal} (Ok n) (ok_or o NoRoom) → SomeIff o (k < 2 ^ 64) k → n ≡ k
fitted (Some x) n k e (p, f) = cc
fitted None n k e s = absurd (cc)

over : (o : Option ℕ) (r : Refusal) (k : ℕ) → ◌≡◌ {A = Result ℕ Refusal} (Err r) (ok_or o NoRoom) → SomeIff o (k < 2 ^ 64) k → (k < 2 ^ 64 → ⊥) × (r ≡ NoRoom)
over (Some x) r k e s = absurd (cc)
over None r k e s = (s, cc)

said_sum : (q : List ℕ) (o : Option ℕ) (n : ℕ) → n ≡ length q → SomeIff o (n < 2 ^ 64) n → said_of (ok_or o NoRoom) ≡ length_of q
said_sum q (Some x) n e (h, f) = simp (lt-ltb (length q) (2 ^ 64) (omega arith)) (ap gives (f ∙ e))
said_sum q None n e s = simp (le-ltb (length q) (2 ^ 64) (omega arith))

pub returns-in_err-n : goal.returns-in_err-n
returns-in_err-n c =
    let a = c.args in
    let q = quoted a.no_backslash_escape a.input.now in
    let out = over c.checked_add.result _ _ c.in_err-n.ensures.value c.checked_add.ensures in
    let err : c.from_residual.result ≡ Err c.in_err-n.field-0.0 = search rules in
    rw (err, out.1) (simp (le-ltb (length q) (2 ^ 64) (omega (arith, out.0, quoted-length a.no_backslash_escape a.input.now, c.mores.ensures))))

pub returns : goal.returns
returns c =
    let a = c.args in
    let m = a.no_backslash_escape in
    let n = fitted c.checked_add.result _ _ c.in_ok-n.ensures.value c.checked_add.ensures in
    rw c.ok_or-2.ensures.value
    (said_sum (quoted m a.input.now) c.checked_add-2.result _ (omega (arith, n, quoted-length m a.input.now, c.mores.ensures)) c.checked_add-2.ensures)
