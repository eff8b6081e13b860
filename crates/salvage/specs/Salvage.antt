-- Damaged captures of plain chunks, by request W12. "Limits here are below 16,777,215 (else 1), so every chunk is a packet".
-- s is a capture, or what is left of one from a place on.
use Rattle.refusal.specs.declared.Refusal.{Refusal}
use Rattle.std.specs.Prelude.{◌≡◌, ℕ, zero, suc, ◌+◌, ◌*◌, Bool, true, false, cond, List, [], ◌∷◌, ◌++◌, length, drop, ◌==◌, nat_le, nat_lt, slice_index, Result, Option, Some, None}
use Rattle.refusal.specs.Number.{number}
use Rattle.refusal.specs.Said.{Said, gives, refused, check, said_of}
use Rattle.wire.specs.Le.{le_at}
use Rattle.wire.specs.Room.{patch}
use Rattle.chunk.specs.Chunks.{largest, next}
use Rattle.salvage.specs.declared.Run as code

-- ---- one chunk

-- what stands at the front of what is left: a whole chunk with its length and number, a length above the limit, or a cut end
pub data Front : Type 0 where
  whole : (len number : ℕ) → Front
  large : Front
  cut : Front

-- "Three bytes of length, low byte first, one sequence byte, then the payload" (01); "2 tested first"
unfoldable pub front_of : (limit : ℕ) → List ℕ → Front
front_of limit s =
    let len = le_at s 0 3 in
    cond (nat_lt (length s) 4) cut
    (cond (nat_lt limit len) large
    (cond (nat_lt (length s) (len + 4)) cut (whole len (slice_index s 3))))

-- a chunk that is to have a number: how many bytes it takes, or why the place is bad. "A bad place is a refusal 2 or 3 or a cut
-- end, 2 tested first and 3 only on a whole chunk"; "8 for a cut end"
abbrev pub taken : (expected : ℕ) → Front → Said ℕ
taken expected (whole len n) = check (n == expected) 3 (gives (len + 4))
taken expected large = refused 2
taken expected cut = refused 8

unfoldable pub chunk_at : (limit expected : ℕ) → List ℕ → Said ℕ
chunk_at limit expected s = taken expected (front_of limit s)

-- ---- reading on from a start

-- how many packets and bytes come before the bad place, and why it is one: the refusal's number, or 0 at the capture's end
pub record Run : Type 0 where
  pub packets : ℕ
  pub bytes : ℕ
  pub why : ℕ

-- what the code answers, in these terms
abbrev pub why_of : Option Refusal → ℕ
why_of None = 0
why_of (Some r) = number r

abbrev pub run_said : code.Run → Run
run_said r = record { packets = r.packets; bytes = r.bytes; why = why_of r.why }

abbrev pub stops : ℕ → Run
stops why = record { packets = 0; bytes = 0; why = why }

-- a chunk, and the run behind it
abbrev pub behind : (ℕ → Run) → Said ℕ → Run
behind rest (gives n) = let r = rest n in record { packets = 1 + r.packets; bytes = n + r.bytes; why = r.why }
behind rest (refused k) = stops k

-- f chunks at the most
unfoldable pub runs : (f limit expected : ℕ) → List ℕ → Run
runs zero limit expected s = stops 0
runs (suc f) limit expected s =
    cond (length s == 0) (stops 0) (behind (λ n. runs f limit (next expected) (drop n s)) (chunk_at limit expected s))

-- a chunk takes four bytes or more, so this many are never all there
unfoldable pub run_on : (limit expected : ℕ) → List ℕ → Run
run_on limit expected s = runs (length s) limit expected s

-- "taking the first chunk's number as given, there and at each later start"
abbrev pub given : List ℕ → ℕ
given s = slice_index s 3

-- ---- the next start

-- whether k whole chunks follow, with lengths within the limit and "numbers rising by one, 255 to 0"
abbrev pub goes : (ℕ → Bool) → Said ℕ → Bool
goes rest (gives n) = rest n
goes rest (refused k) = false

unfoldable pub follow : (k limit expected : ℕ) → List ℕ → Bool
follow zero limit expected s = true
follow (suc k) limit expected s = goes (λ n. follow k limit (next expected) (drop n s)) (chunk_at limit expected s)

-- "three whole chunks follow with lengths within the limit and numbers rising by one, 255 to 0"
unfoldable pub starts_at : (limit : ℕ) → List ℕ → Bool
starts_at limit s = follow 3 limit (given s) s

-- how many bytes come before the first start; "If there is none, the rest is lost": all of them
unfoldable pub to_start : (limit : ℕ) → List ℕ → ℕ
to_start limit [] = 0
to_start limit (b ∷ s) = cond (starts_at limit (b ∷ s)) 0 (suc (to_start limit s))

-- how many bytes are lost at a bad place: "the next start is the smallest later offset", so the first byte is lost in any case
abbrev pub lost_at : (limit : ℕ) → List ℕ → ℕ
lost_at limit s = suc (to_start limit (drop 1 s))

-- ---- the report

-- "`good`, offset, bytes, packets; or `lost`, offset, bytes, and the refusal number that began it"
pub data Stretch : Type 0 where
  good : (offset bytes packets : ℕ) → Stretch
  lost : (offset bytes number : ℕ) → Stretch

abbrev pub offset_of : Stretch → ℕ
offset_of (good offset bytes packets) = offset
offset_of (lost offset bytes number) = offset

abbrev pub bytes_of : Stretch → ℕ
bytes_of (good offset bytes packets) = bytes
bytes_of (lost offset bytes number) = bytes

-- "a stretch of zero bytes is not written"
abbrev pub written : Stretch → List Stretch
written x = cond (bytes_of x == 0) [] (x ∷ [])

-- from a start at an offset: what is read there is good. Where the capture ends with it, that is all; else the bytes up to the
-- next start are lost, and it goes on from there. f starts at the most
unfoldable pub starting : (f limit offset : ℕ) → List ℕ → List Stretch
starting zero limit offset s = []
starting (suc f) limit offset s =
    let r = run_on limit (given s) s in
    let bad = drop r.bytes s in
    let n = lost_at limit bad in
    written (good offset r.bytes r.packets)
    ++ cond (r.why == 0) [] (lost (offset + r.bytes) n r.why ∷ starting f limit (offset + r.bytes + n) (drop n bad))

-- "Read from offset 0". A byte or more is lost before each later start, so this many are never all there
unfoldable pub stretches : (limit : ℕ) → List ℕ → List Stretch
stretches limit s = starting (length s) limit 0 s

-- ---- what the entries answer

-- a stretch in the lent list: 1 for good and 0 for lost, and its three numbers
abbrev pub numbers_of : Stretch → List ℕ
numbers_of (good offset bytes packets) = 1 ∷ offset ∷ bytes ∷ packets ∷ []
numbers_of (lost offset bytes number) = 0 ∷ offset ∷ bytes ∷ number ∷ []

unfoldable pub numbers : List Stretch → List ℕ
numbers [] = []
numbers (x ∷ xs) = numbers_of x ++ numbers xs

-- "Limits here are below 16,777,215 (else 1)"; 0 is no limit in 01 either, and is 1 too
abbrev pub limited : {A : Type 0} → ℕ → Said A → Said A
limited limit a = check (nat_lt 0 limit) 1 (check (nat_lt limit largest) 1 a)

-- how many stretches there are
unfoldable pub counted : (limit : ℕ) → List ℕ → Said ℕ
counted limit s = limited limit (gives (length (stretches limit s)))

-- the same, with the stretches in the list d: 6 where "a lent buffer is shorter than the whole output" (01)
unfoldable pub salvaged : (limit : ℕ) → (s d : List ℕ) → Said ℕ
salvaged limit s d = let n = length (stretches limit s) in limited limit (check (nat_le (4 * n) (length d)) 6 (gives n))

-- the list then: "what lies past the written part of any lent buffer or list stays", and a refusal changes nothing (01)
abbrev pub left_in : Said ℕ → (bs d : List ℕ) → List ℕ
left_in (gives n) bs d = patch d 0 bs
left_in (refused k) bs d = d

-- what a call answers and leaves
pub record Salvages (limit : ℕ) (s d : List ℕ) (r : Result ℕ Refusal) (d' : List ℕ) : Type 0 where
  pub said : said_of r ≡ salvaged limit s d
  pub left : d' ≡ left_in (salvaged limit s d) (numbers (stretches limit s)) d
