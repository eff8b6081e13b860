-- What a quoted form means to a server, by MySQL's "String Literals". It is written from that page, apart from what we write.
use Rattle.std.specs.Prelude.{ℕ, Bool, cond, List, [], ◌∷◌, ◌++◌, eqb}
use Rattle.escape.specs.Quote.{quote, backslash}

-- a literal that was read: what it means, and the bytes behind it; or none, where no quote opens it or none ends it
pub data Literal : Type 0 where
  literal : List ℕ → List ℕ → Literal
  none : Literal

-- what it means with some bytes more in front
abbrev pub also : List ℕ → Literal → Literal
also bs (literal cs rest) = literal (bs ++ cs) rest
also bs none = none

-- "Special Character Escape Sequences": what a backslash and this byte mean. `\0` `\b` `\n` `\r` `\t` `\Z`; `\%` and `\_` keep their
-- backslash; "for all other escape sequences, backslash is ignored"
unfoldable pub escape_means : ℕ → List ℕ
escape_means c =
    cond (eqb c 0x30) (0x00 ∷ [])
    (cond (eqb c 0x62) (0x08 ∷ [])
    (cond (eqb c 0x6E) (0x0A ∷ [])
    (cond (eqb c 0x72) (0x0D ∷ [])
    (cond (eqb c 0x74) (0x09 ∷ [])
    (cond (eqb c 0x5A) (0x1A ∷ [])
    (cond (eqb c 0x25) (backslash ∷ c ∷ [])
    (cond (eqb c 0x5F) (backslash ∷ c ∷ [])
    (c ∷ []))))))))

-- behind the opening quote: "a ' inside a string quoted with ' may be written as ''", and any other quote ends it. A backslash
-- escapes unless the mode NO_BACKSLASH_ESCAPES is on
unfoldable pub inside : (no_backslash : Bool) → List ℕ → Literal
inside no_backslash [] = none
inside no_backslash (b ∷ []) = cond (eqb b quote) (literal [] []) none
inside no_backslash (b ∷ c ∷ s) =
    cond (eqb b quote) (cond (eqb c quote) (also (quote ∷ []) (inside no_backslash s)) (literal [] (c ∷ s)))
    (cond (cond no_backslash Bool.false (eqb b backslash)) (also (escape_means c) (inside no_backslash s)) (also (b ∷ []) (inside no_backslash (c ∷ s))))

unfoldable pub literal_of : (no_backslash : Bool) → List ℕ → Literal
literal_of no_backslash [] = none
literal_of no_backslash (b ∷ s) = cond (eqb b quote) (inside no_backslash s) none

-- what a quoted form means by itself
abbrev pub meaning_of : Literal → List ℕ
meaning_of (literal bs rest) = bs
meaning_of none = []

unfoldable pub meaning : (no_backslash : Bool) → List ℕ → List ℕ
meaning no_backslash s = meaning_of (literal_of no_backslash s)
