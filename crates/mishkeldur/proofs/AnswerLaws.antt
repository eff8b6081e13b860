-- How a packet's numbers stand in the list.
use Rattle.std.proofs.Common.{◌≡◌, ℕ, List, ◌++◌, drop, refl}
use Rattle.wire.specs.Room.{patch}
use Rattle.answer.specs.declared.Packet.{Packet}
use Rattle.answer.specs.declared.Packet.TheVariants as P
use Rattle.mishkeldur.specs.Answers.{packet_numbers}

-- a packet's numbers before what lay behind the first eleven
pub front_filled : (p : Packet) (used : ℕ) (d : List ℕ) → packet_numbers p used ++ drop 11 d ≡ patch d 0 (packet_numbers p used)
front_filled (P.Ok p) used d = refl
front_filled (P.Err p) used d = refl
front_filled (P.Eof p) used d = refl
