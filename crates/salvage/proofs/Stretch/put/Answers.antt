use Rattle.std.proofs.Common.{◌≡◌, ◌+◌, ◌-◌, refl, ◌∙◌, arith}
use Rattle.std.specs.Int.{from_bool}
use Rattle.std.proofs.lemmas.Slice.{put_mid-paste}
use Rattle.wire.specs.RoomLaws.{paste_patch}
use Rattle.salvage.proofs.PutLaws.{numbers4, some_is}
use Rattle.salvage.proofs.Stretch.put.Goals as goal

pub returns : goal.returns
returns c =
    let a = c.args in
    let s = a.self in
    let four = numbers4 (from_bool s.good) s.offset s.bytes s.last in
    let e : c.copy_from_slice.new.self ≡ four = c.copy_from_slice.ensures.after ∙ rw c.from.ensures in
    rw (some_is (from_bool s.good) s.offset s.bytes s.last (omega arith)) (
      refl,
      put_mid-paste a.i (a.i + 4 - a.i) a.out.now c.copy_from_slice.new.self four 4 e (omega arith) refl ∙ paste_patch a.out.now a.i four 4 refl,
    )
