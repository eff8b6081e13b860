-- What an entry answers, in the paper's terms: what it gives, or the number of its refusal. Every room speaks so.
use Rattle.std.specs.Prelude.{ℕ, ◌≡◌, Bool, cond, Result, Ok, Err}
use Rattle.std.proofs.Common.{arith, sym}
use Rattle.std.proofs.Math.Path.{ap}
use Rattle.refusal.specs.Number.{number, number_same}
use Rattle.refusal.specs.declared.Refusal.{Refusal}

pub data Said (A : Type 0) : Type 0 where
  gives : A → Said A
  refused : ℕ → Said A

-- a test: where it fails, the refusal with number n
abbrev pub check : {A : Type 0} → Bool → ℕ → Said A → Said A
check t n a = cond t a (refused n)

-- one reader after another: the first refusal is the answer
abbrev pub and_then : {A B : Type 0} → Said A → (A → Said B) → Said B
and_then (gives a) f = f a
and_then (refused n) f = refused n

-- what the code answers, in these terms
abbrev pub said_of : {A : Type 0} → Result A Refusal → Said A
said_of (Ok a) = gives a
said_of (Err r) = refused (number r)

-- ---- its laws: an answer is determined by what it says

pub gives_same : {A : Type 0} {a b : A} → gives a ≡ gives b → a ≡ b
gives_same e = cc e

pub refused_same : {A : Type 0} {m n : ℕ} → ◌≡◌ {A = Said A} (refused m) (refused n) → m ≡ n
refused_same e = cc e

pub gives_not_refused : {A : Type 0} {a : A} {n : ℕ} → gives a ≡ refused n → ⊥
gives_not_refused e = let z : ◌≡◌ {A = ℕ} 0 1 = cc e in omega arith

pub said_same : {A : Type 0} (a b : Result A Refusal) → said_of a ≡ said_of b → a ≡ b
said_same (Ok a) (Ok b) e = ap Ok (gives_same e)
said_same (Ok a) (Err r) e = absurd (gives_not_refused e)
said_same (Err r) (Ok b) e = absurd (gives_not_refused (sym e))
said_same (Err r) (Err q) e = ap Err (number_same r q (refused_same e))

-- ---- what a `?` hands on: the value to what follows, or the refusal

pub then_ok : {A B : Type 0} {r : Result A Refusal} {a : A} {x : Said A} (f : A → Said B) → r ≡ Ok a → said_of r ≡ x → f a ≡ and_then x f
then_ok f w e = let k : gives _ ≡ _ = rw w at e in rw (← k)

pub then_err : {A B : Type 0} {r : Result A Refusal} {q : Refusal} {x : Said A} (f : A → Said B) → r ≡ Err q → said_of r ≡ x → refused (number q) ≡ and_then x f
then_err f w e = let k : refused (number _) ≡ _ = rw w at e in rw (← k)
