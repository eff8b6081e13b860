use Rattle.literal.specs.WriteLaws.{sound_within, all_sound}
use native.Mathlib.Omega.{arith}
use mathlib.Core.Path.{refl}
use Rattle.literal.proofs.put_meaning.Goals as goal

-- something stands behind the opening quote
pub overflow_sub-last : goal.overflow_sub-last
overflow_sub-last c =
    let m = c.args.no_backslash_escape in
    let s = c.args.input.now in
    omega (arith, sound_within m s 1 (all_sound m s _ c.requires.0).0)

pub loop-spot-init : goal.loop-spot-init
loop-spot-init c =
    let m = c.args.no_backslash_escape in
    let s = c.args.input.now in
    let sound = (all_sound m s _ c.requires.0).0 in
    (sound_within m s 1 sound, sound, record { room = refl; left = refl }, refl)
