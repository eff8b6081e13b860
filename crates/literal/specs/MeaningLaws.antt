-- The page is told once: a literal of the grammar is read by escape's `literal_of` as the same bytes, with nothing behind it.
use Rattle.std.specs.Prelude.{ℕ, ◌≡◌, refl, Bool, List, [], ◌∷◌, ◌++◌}
use Rattle.std.proofs.Common.{sym, ap, ◌∙◌, append_assoc, ne_eqb}
use Rattle.escape.specs.Quote.{quote, backslash}
use Rattle.escape.specs.Meaning as M
use Rattle.literal.specs.Grammar.{Item, itself, doubled, escape, Items, none, more, Literal, literal}
use Rattle.literal.specs.CheckedLaws.{backslash_not}

item_same : {m : Bool} {w b : List ℕ} → Item m w b → (s : List ℕ) → M.inside m (w ++ s) ≡ M.also b (M.inside m s)
unfolding M.inside
item_same (itself c n o) [] = simp (ne_eqb c quote n)
item_same {m} (itself c n o) (x ∷ s) = simp (ne_eqb c quote n, backslash_not m c o)
item_same doubled s = refl
item_same {m} (escape c e) s = ap (λ (n : Bool). M.inside n (backslash ∷ c ∷ s)) e ∙ sym (ap (λ (n : Bool). M.also (M.escape_means c) (M.inside n s)) e)

items_same : {m : Bool} {ws bs : List ℕ} → Items m ws bs → M.inside m (ws ++ (quote ∷ [])) ≡ M.literal bs []
unfolding M.inside
items_same none = refl
items_same {m} (more {w} {b} {ws} {bs} i is) =
    ap (M.inside m) (append_assoc w ws (quote ∷ [])) ∙ item_same i (ws ++ (quote ∷ [])) ∙ ap (M.also b) (items_same is)

pub literal_read : {m : Bool} {s bs : List ℕ} → Literal m s bs → M.literal_of m s ≡ M.literal bs []
unfolding M.literal_of
literal_read (literal is) = items_same is
