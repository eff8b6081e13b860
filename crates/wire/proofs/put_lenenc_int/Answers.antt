use Rattle.wire.specs.LenEncLaws.{len_1, len_3, len_4, len_9}
use native.Mathlib.Omega.{arith}
use Rattle.wire.proofs.put_lenenc_int.Goals as goal

pub returns-then-v-lt251 : goal.returns-then-v-lt251
returns-then-v-lt251 c = rw (len_1 c.args.v (omega arith)) c.put_led.ensures

pub returns-then-v-lt65536 : goal.returns-then-v-lt65536
returns-then-v-lt65536 c = rw (len_3 c.args.v (omega arith) (omega arith)) c.put_led-then-v-lt65536.ensures

pub returns-then-v-lt16777216 : goal.returns-then-v-lt16777216
returns-then-v-lt16777216 c =
    rw (len_4 c.args.v (omega arith) (omega arith) (omega arith))
    c.put_led-then-v-lt16777216.ensures

pub returns : goal.returns
returns c =
    rw (len_9 c.args.v (omega arith) (omega arith) (omega arith))
    c.put_led-2.ensures
