-- What a report means, apart from how it is made: W12's sentences on stretches, good bytes and the next start, of any list of them.
use Rattle.std.specs.Prelude.{◌≡◌, ℕ, zero, suc, ◌+◌, ◌<◌, ◌≤◌, Bool, true, false, List, [], ◌∷◌, length, take, drop, None}
use Rattle.chunk.specs.Chunks.{largest}
use Rattle.chunk.specs.Read.{Answered, need_more, packet, refused, idle, read}
use Rattle.chunk.specs.declared.PlainPacketCodec.{PlainPacketCodec}
use Rattle.salvage.specs.Salvage.{Stretch, good, lost, offset_of, bytes_of, given, starts_at}

-- "Stretches cover the capture exactly; a stretch of zero bytes is not written": they lie end to end from one offset to another
abbrev pub Covers : ℕ → List Stretch → ℕ → Type 0
Covers offset [] end = offset ≡ end
Covers offset (x ∷ xs) end = (offset_of x ≡ offset) × (0 < bytes_of x) × Covers (offset + bytes_of x) xs end

-- of every stretch
abbrev pub Each : (Stretch → Type 0) → List Stretch → Type 0
Each P [] = Unit {0}
Each P (x ∷ xs) = P x × Each P xs

-- ---- a good stretch

abbrev pub is_packet : Answered → Bool
is_packet need_more = false
is_packet (packet n) = true
is_packet (refused k) = false

-- a plain reader that is lent what is left, and the packet buffer b, hands out k packets in k calls; then no byte is left
unfoldable pub reads_all : PlainPacketCodec → (s b : List ℕ) → ℕ → Type 0
reads_all st s b zero = s ≡ []
reads_all st s b (suc k) = let d = read largest None st s b in (is_packet d.answer ≡ true) × reads_all d.next (drop d.used s) d.buf k

-- the bytes of a good stretch, by themselves, are its packets: to a reader that was opened with the limit and expects the first
-- chunk's number, with any packet buffer of the limit
abbrev pub GoodReads : (limit : ℕ) (s : List ℕ) → Stretch → Type 0
GoodReads limit s (good offset bytes packets) = (b : List ℕ) → limit ≤ length b
    → reads_all (idle limit (given (drop offset s))) (take bytes (drop offset s)) b packets
GoodReads limit s (lost offset bytes number) = Unit {0}

-- ---- a lost stretch

-- "the next start is the smallest later offset": none of the offsets before the next stretch is a start, but for that of the bad
-- place itself, and where the capture does not end there, it is one
abbrev pub NoEarlier : (limit : ℕ) (s : List ℕ) → Stretch → Type 0
NoEarlier limit s (good offset bytes packets) = Unit {0}
NoEarlier limit s (lost offset bytes number) =
    ((i : ℕ) → offset < i → i < offset + bytes → starts_at limit (drop i s) ≡ false)
    × (offset + bytes < length s → starts_at limit (drop (offset + bytes) s) ≡ true)
