-- The NULL bitmap of a binary row (offset 2) or of a parameter list (offset 0), by 01's "Values".
use Rattle.std.specs.Prelude.{ℕ, zero, suc, ◌+◌, ◌/◌, ◌%◌, ◌^◌, Bool, List, length, get_or, leb, ltb, eqb}
use Rattle.refusal.specs.Said.{Said, gives, check}
use Rattle.row.specs.declared.Side.{Side}
use Rattle.row.specs.declared.Side.TheVariants.{ServerSide, ClientSide}

-- `BIT_OFFSET`: rows come from the server, parameters from the client
abbrev pub offset_of : Side → ℕ
offset_of ServerSide = 2
offset_of ClientSide = 0

-- bit k of a number
abbrev pub bit_of : ℕ → ℕ → ℕ
bit_of b k = b / 2 ^ k % 2

-- "Column i is bit (i+2) mod 8 of bitmap byte floor((i+2)/8); parameters use offset 0 instead of 2"
unfoldable pub null_bit : List ℕ → ℕ → ℕ → ℕ
null_bit map off i = bit_of (get_or map ((i + off) / 8) 0) ((i + off) % 8)

-- "The NULL count is the number of set bits that belong to columns"
unfoldable pub null_count : List ℕ → ℕ → ℕ → ℕ
null_count map off zero = 0
null_count map off (suc n) = null_count map off n + null_bit map off n

-- "floor((n+9)/8)" bytes at offset 2, "floor((n+7)/8)" at 0
abbrev pub map_size : ℕ → ℕ → ℕ
map_size n off = (n + off + 7) / 8

-- ---- the bit and the count by themselves, for a host that walks an execute packet: 8 where the bitmap is too short for them

unfoldable pub null_at : List ℕ → Side → ℕ → Said Bool
null_at map side i = check (ltb ((i + offset_of side) / 8) (length map)) 8 (gives (eqb (null_bit map (offset_of side) i) 1))

-- 13 for 0 or more than 4,096 columns, then 8
unfoldable pub count_at : List ℕ → Side → ℕ → Said ℕ
count_at map side n =
    check (ltb 0 n) 13
    (check (leb n 4096) 13
    (check (leb (map_size n (offset_of side)) (length map)) 8 (gives (null_count map (offset_of side) n))))
