-- The grammar of single-quoted literals, by MySQL's "String Literals" and docs/LITERALS.md: which bytes are a literal, and what it means.
use Rattle.std.specs.Prelude.{ℕ, ◌+◌, ◌≤◌, ◌<◌, ◌≡◌, Bool, false, List, [], ◌∷◌, ◌++◌, length, take}
use Rattle.escape.specs.Quote.{quote, backslash}
use Rattle.escape.specs.Meaning.{escape_means}

-- one item inside the quotes: the bytes that are written, and the bytes that they mean. A byte that is no quote and, where backslashes
-- escape, no backslash; "a ' inside a string quoted with ' may be written as ''"; and an escape, unless NO_BACKSLASH_ESCAPES is on
pub data Item (no_backslash : Bool) : List ℕ → List ℕ → Type 0 where
  itself : (c : ℕ) → (c ≡ quote → ⊥) → (no_backslash ≡ false → c ≡ backslash → ⊥) → Item no_backslash (c ∷ []) (c ∷ [])
  doubled : Item no_backslash (quote ∷ quote ∷ []) (quote ∷ [])
  escape : (c : ℕ) → no_backslash ≡ false → Item no_backslash (backslash ∷ c ∷ []) (escape_means c)

-- items, one after the other
pub data Items (no_backslash : Bool) : List ℕ → List ℕ → Type 0 where
  none : Items no_backslash [] []
  more : {w b ws bs : List ℕ} → Item no_backslash w b → Items no_backslash ws bs → Items no_backslash (w ++ ws) (b ++ bs)

-- a quote, items, a quote: all of the input
pub data Literal (no_backslash : Bool) : List ℕ → List ℕ → Type 0 where
  literal : {ws bs : List ℕ} → Items no_backslash ws bs → Literal no_backslash (quote ∷ (ws ++ (quote ∷ []))) bs

-- bytes that some literal begins with: with some bytes behind them they are one
pub record Begins (no_backslash : Bool) (s : List ℕ) : Type 0 where
  pub rest : List ℕ
  pub bytes : List ℕ
  pub whole : Literal no_backslash (s ++ rest) bytes

-- "the place of the first byte that no literal could continue with, or the end": the bytes before it begin a literal; and no literal begins with
-- them and the byte that stands there, if one does
pub record Place (no_backslash : Bool) (s : List ℕ) (p : ℕ) : Type 0 where
  pub within : p ≤ length s
  pub before : Begins no_backslash (take p s)
  pub stops : p < length s → Begins no_backslash (take (p + 1) s) → ⊥
