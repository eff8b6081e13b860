use Rattle.escape.proofs.PutLaws.{quoted-size}
use lib.ListN.{length-set}
use native.Mathlib.Omega.{arith}
use Rattle.escape.proofs.put_quoted.Goals as goal

pub put_body-next-requires : goal.put_body-next-requires
put_body-next-requires c =
    simp length-set (omega
    (arith, quoted-size c.args.no_backslash_escape c.args.input.now))

-- the closing quote has room
pub bounds-dst-next : goal.bounds-dst-next
bounds-dst-next c =
    omega (
      arith,
      c.put_body-next.ensures.place,
      simp length-set at c.put_body-next.auto.dst,
      quoted-size
          c.args.no_backslash_escape c.args.input.now,
      c.requires,
    )
