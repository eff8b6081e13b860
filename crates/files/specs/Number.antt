-- A number of a list that a program reads: 0 where the list has ended.
use Rattle.std.specs.Prelude.{ℕ}
use Rattle.refusal.specs.Said.{Said, gives, refused}
use Rattle.wire.specs.declared.Parsed.{Parsed}

abbrev pub or_zero : Said (Parsed ℕ) → ℕ
or_zero (gives n) = n.value
or_zero (refused r) = 0
