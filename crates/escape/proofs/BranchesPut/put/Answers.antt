use Rattle.escape.proofs.PutLaws.{leads_put, leading_one, unless_none, unless_some}
use Rattle.escape.specs.QuoteLaws.{becomes_itself, becomes_two, second_of}
use Rattle.wire.specs.RoomLaws.{patch_one, patch_two}
use mathlib.Core.List.{[], ◌∷◌}
use mathlib.Core.Path.{refl, sym, ◌∙◌}
use native.Mathlib.Omega.{arith}
use Rattle.escape.proofs.BranchesPut.put.Goals as goal

pub returns-in-None : goal.returns-in-None
returns-in-None c =
    let a = c.args in
    let m = a.self.now.0 in
    let itself = becomes_itself m a.b (unless_none (second_of m a.b) (sym c.second_of.ensures ∙ c.in-None.is)) in
    leading_one m a.b itself refl (leads_put (a.b ∷ []) a.dst.now a.at (patch_one a.dst.now a.at a.b (omega arith)))

pub returns-in-Some : goal.returns-in-Some
returns-in-Some c =
    let a = c.args in
    let m = a.self.now.0 in
    let second = unless_some (second_of m a.b) (sym c.second_of.ensures ∙ c.in-Some.is) in
    rw (c.first_of.ensures, second.1)
    (leading_one m a.b (becomes_two m a.b second.0) refl (leads_put _ a.dst.now a.at (patch_two a.dst.now a.at _ _ c.requires.0)))
