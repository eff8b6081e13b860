use Rattle.std.proofs.Common.{[], ◌∷◌, refl, sym, rules}
use Rattle.wire.specs.RoomLaws.{wrote_as}
use Rattle.answer.specs.Written.{body_on_wire}
use Rattle.answer.specs.WrittenLaws.{wrote_before, byte_alone}
use Rattle.answer.proofs.put_record.Goals as goal

pub returns : goal.returns
returns c =
    let a = c.args in
    wrote_before (a.kind ∷ []) (body_on_wire a.src.now a.kind) a.dst.now a.at refl c.in_ok-end.ensures
    (wrote_as (sym (byte_alone a.kind (search rules))) c.in_ok-put_u8.ensures)
