use Rattle.wire.specs.LenEncLaws.{len_length}
use lib.ListN.{length, length-append}
use native.Mathlib.Omega.{arith}
use Rattle.wire.proofs.lenenc_str_len.Goals as goal

pub overflow_add-result : goal.overflow_add-result
overflow_add-result c =
    let n = length c.args.s.now in
    omega (arith, len_length n, c.lenenc_int_len.ensures, c.well_formed.0.1)

pub returns : goal.returns
returns c =
    let n = length c.args.s.now in
    (simp length-append (omega (arith, c.lenenc_int_len.ensures)), omega (arith, len_length n, c.lenenc_int_len.ensures, c.well_formed.0.1))
