-- Column types by the document's codes (01, "Values").
use Rattle.std.specs.Prelude.{ℕ, cond, eqb, leb, Option, Some, None}
use Rattle.value.specs.declared.Kind.{Kind}
use Rattle.value.specs.declared.Kind.TheVariants.{Str, One, Two, Four, Eight, Single, Wide, Nil, Day, Clock}

-- "strings 0, 15, 16, 242, 245 to 255; 1 one byte; 2 and 13 two; 3 and 9 four; 8 eight; 4 an f32; 5 an f64; 6 NULL with no
-- bytes; 7, 10, 12, 14 date; 11 time"
unfoldable pub kind_of : ℕ → Option Kind
kind_of t =
    cond (leb 245 t) (Some Str)
    (cond (eqb t 0) (Some Str)
    (cond (eqb t 15) (Some Str)
    (cond (eqb t 16) (Some Str)
    (cond (eqb t 242) (Some Str)
    (cond (eqb t 1) (Some One)
    (cond (eqb t 2) (Some Two)
    (cond (eqb t 13) (Some Two)
    (cond (eqb t 3) (Some Four)
    (cond (eqb t 9) (Some Four)
    (cond (eqb t 8) (Some Eight)
    (cond (eqb t 4) (Some Single)
    (cond (eqb t 5) (Some Wide)
    (cond (eqb t 6) (Some Nil)
    (cond (eqb t 7) (Some Day)
    (cond (eqb t 10) (Some Day)
    (cond (eqb t 12) (Some Day)
    (cond (eqb t 14) (Some Day)
    (cond (eqb t 11) (Some Clock) None))))))))))))))))))
