use Rattle.mishkeldur.proofs.FaceLaws.{date_given}
use Rattle.mishkeldur.proofs.values.mk_read_date.Goals as goal

pub returns-in_default : goal.returns-in_default
returns-in_default c =
    let e = rw c.in-Ok.is at c.deserialize_bin.ensures in
    absurd (c.in_default.not-Date _ (date_given _ _ _ e).1)
