-- Quoting, by 01's "Quotes and session records": on bytes, with a quote at each end.
use Rattle.std.specs.Prelude.{ℕ, Bool, cond, List, [], ◌∷◌, ◌++◌, eqb}

-- the bytes named in the paper
abbrev pub quote : ℕ
quote = 0x27

abbrev pub backslash : ℕ
backslash = 0x5C

-- "Backslash mode: 0x00, 0x0A, 0x0D, 0x1A become `\0` `\n` `\r` `\Z`; backslash, `'` and `"` get a backslash": the byte that
-- stands behind the backslash, or 0 where a byte stands for itself
unfoldable pub behind : ℕ → ℕ
behind b =
    cond (eqb b 0x00) 0x30
    (cond (eqb b 0x0A) 0x6E
    (cond (eqb b 0x0D) 0x72
    (cond (eqb b 0x1A) 0x5A
    (cond (eqb b backslash) backslash
    (cond (eqb b quote) quote
    (cond (eqb b 0x22) 0x22 0))))))

-- what a byte becomes. "Other mode: `'` is doubled"
unfoldable pub becomes : (no_backslash : Bool) → ℕ → List ℕ
becomes no_backslash b =
    cond no_backslash
    (cond (eqb b quote) (quote ∷ quote ∷ []) (b ∷ []))
    (cond (eqb (behind b) 0) (b ∷ []) (backslash ∷ behind b ∷ []))

-- what the bytes become, one after the other
unfoldable pub body : Bool → List ℕ → List ℕ
body no_backslash [] = []
body no_backslash (b ∷ bs) = becomes no_backslash b ++ body no_backslash bs

-- "adds a quote at each end"
unfoldable pub quoted : Bool → List ℕ → List ℕ
quoted no_backslash bs = quote ∷ (body no_backslash bs ++ (quote ∷ []))
