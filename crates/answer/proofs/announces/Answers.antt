use Rattle.std.specs.Prelude.{◌/◌, ◌%◌, ◌*◌, ◌≡◌, ◌<◌, ℕ, zero, suc, refl, not, nat_eq, eqb}
use Rattle.std.proofs.Common.{arith}
use Rattle.std.proofs.lemmas.Nat.Bits.{and_pow}
use Rattle.answer.proofs.announces.Goals as goal

-- the bit stands by itself
alone : (b : ℕ) → b < 2 → not (nat_eq (b * 0x4000) 0) ≡ eqb b 1
alone zero h = refl
alone (suc zero) h = refl
alone (suc (suc b)) h = absurd (omega arith)

pub returns : goal.returns
returns c = rw (and_pow c.args.status 14) (alone (c.args.status / 0x4000 % 2) (omega arith))
