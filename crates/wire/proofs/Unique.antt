-- Any two results that a contract of this room allows are equal: the answer, and every byte of a lent buffer.
use Rattle.wire.specs.declared.Text.{Text}
use Rattle.wire.specs.declared.Parsed.{Parsed}
use Rattle.refusal.specs.declared.Refusal.{Refusal}
use Rattle.std.specs.Prelude.{Result}
use mathlib.Core.Path.{◌≡◌, sym, ◌∙◌}
use mathlib.Core.List.{List}
use Prim.Native.Nat.{ℕ}
use Rattle.refusal.specs.Said.{said_of, said_same}
use Rattle.wire.specs.Le.{num_at}
use Rattle.wire.specs.LenEnc.{len_at, str_at, byte_str_at}
use Rattle.wire.specs.Room.{Wrote}
use Rattle.wire.specs.RoomLaws.{wrote_same}

-- ---- what an answer says determines it

-- ---- the entries

-- `checked_eat_u8`, `checked_eat_u16_le`, `checked_eat_u24_le`, `checked_eat_u32_le`, `checked_eat_u64_le`: over the width
pub numbers : (s : List ℕ) (at k : ℕ) (a b : Result (Parsed ℕ) Refusal) → said_of a ≡ num_at s at k → said_of b ≡ num_at s at k → a ≡ b
numbers s at k a b e f = said_same a b (e ∙ sym f)

-- `checked_eat_lenenc_int`
pub lenenc_int : (s : List ℕ) (at : ℕ) (a b : Result (Parsed ℕ) Refusal) → said_of a ≡ len_at s at → said_of b ≡ len_at s at → a ≡ b
lenenc_int s at a b e f = said_same a b (e ∙ sym f)

-- `checked_eat_lenenc_str`
pub lenenc_str : (s : List ℕ) (at : ℕ) (a b : Result Text Refusal) → said_of a ≡ str_at s at → said_of b ≡ str_at s at → a ≡ b
lenenc_str s at a b e f = said_same a b (e ∙ sym f)

-- `checked_eat_u8_str`
pub byte_str : (s : List ℕ) (at : ℕ) (a b : Result Text Refusal) → said_of a ≡ byte_str_at s at → said_of b ≡ byte_str_at s at → a ≡ b
byte_str s at a b e f = said_same a b (e ∙ sym f)

-- every writer: `put_u8` to `put_u64_le`, `put_lenenc_int`, `put_lenenc_str`, `put_slice`
pub writers : (bs d : List ℕ) (at : ℕ) (a b : Result ℕ Refusal) (d₁ d₂ : List ℕ) → Wrote bs d at a d₁ → Wrote bs d at b d₂ → (a ≡ b) × (d₁ ≡ d₂)
writers bs d at a b d₁ d₂ v w = wrote_same v w
