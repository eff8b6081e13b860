-- "Marked examples (one table, one statement)". Each row is an equation of the definition that the contracts cite, and holds by
-- computation alone.
use Rattle.std.specs.Prelude.{◌≡◌, refl, true, false, pos, negsuc}
use mathlib.Core.List.{[], ◌∷◌, flatten}
use Rattle.refusal.specs.Said.{gives, refused}
use Rattle.wire.specs.Le.{le_of, le_bytes}
use Rattle.wire.specs.LenEnc.{len_bytes, byte_str_at, part_of}
use Rattle.wire.specs.Fields.{since, just}
use Rattle.duration.specs.Time.{time_at, time_of}
use Rattle.duration.specs.Duration.{duration_of, duration_at}
use Rattle.escape.specs.Quote.{behind, becomes, body, quoted}
use Rattle.value.specs.Kinds.{kind_of}
use Rattle.value.specs.Dates.{date_of}
use Rattle.value.specs.Read.{bin_at, skip_at}
use Rattle.value.specs.declared.Value.TheVariants as Of
use Rattle.row.specs.Nulls.{null_bit, null_count, null_at, count_at}
use Rattle.row.specs.Walk.{col_at, walk}
use Rattle.row.specs.Row.{values_of, row_of}
use Rattle.chunk.specs.Read as P
use Rattle.chunk.specs.Read.{turn_from, turn_of, turns, opened, read}
use Rattle.frame.specs.Codec.{closed, unread_of}
use Rattle.frame.specs.Read.{headed, frame_from, frame_at, drained, lap_at, laps, running, read_framed}
use Rattle.frame.specs.declared.PacketCodec.{PacketCodec}
use Rattle.chunk.specs.Chunks.{largest, next, chunk, cut, pieces, numbered, chunks_of, chunks, after}
use Rattle.row.specs.declared.Side.TheVariants.{ServerSide}

-- a codec with frames on, as it is opened
abbrev pub framed : PacketCodec
framed = record {
  limit = 61440;
  taken = 0;
  len = 0;
  unread = 0;
  size = 0;
  number = 0;
  waiting = false;
  ahead = 0;
  closed = false;
  frame = 0;
  held = false;
  coming = 0;
  framed = true;
}

pub record Marked : Type 0 where
  -- m=3, number 254, ABCDEFG: 03 00 00 FE 41 42 43 03 00 00 FF 44 45 46 01 00 00 00 47, next 1
  pub E1 :
      chunks 3 254 (0x41 ∷ 0x42 ∷ 0x43 ∷ 0x44 ∷ 0x45 ∷ 0x46 ∷ 0x47 ∷ [])
      ≡ 0x03 ∷ 0x00 ∷ 0x00 ∷ 0xFE ∷ 0x41 ∷ 0x42 ∷ 0x43 ∷ 0x03 ∷ 0x00 ∷ 0x00 ∷ 0xFF ∷ 0x44 ∷ 0x45 ∷ 0x46 ∷ 0x01 ∷ 0x00 ∷ 0x00 ∷ 0x00 ∷ 0x47 ∷ []
  pub E1-next : after 3 254 7 ≡ 1
  -- m=3, 254, ABC: 03 00 00 FE 41 42 43 00 00 00 FF, next 0
  pub E2 : chunks 3 254 (0x41 ∷ 0x42 ∷ 0x43 ∷ []) ≡ 0x03 ∷ 0x00 ∷ 0x00 ∷ 0xFE ∷ 0x41 ∷ 0x42 ∷ 0x43 ∷ 0x00 ∷ 0x00 ∷ 0x00 ∷ 0xFF ∷ []
  pub E2-next : after 3 254 3 ≡ 0
  -- m=3, number 5, empty: 00 00 00 05, next 6
  pub E3 : chunks 3 5 [] ≡ 0x00 ∷ 0x00 ∷ 0x00 ∷ 0x05 ∷ []
  pub E3-next : after 3 5 0 ≡ 6
  -- frame header 00 00 00 07 01 00 00: 4
  pub E4 :
      read_framed largest framed (0x00 ∷ 0x00 ∷ 0x00 ∷ 0x07 ∷ 0x01 ∷ 0x00 ∷ 0x00 ∷ []) [] []
      ≡ record { answer = P.refused 4; used = 0; next = closed framed; unread = []; buf = [] }
  -- 250: FA; 251: FC FB 00
  pub E5-250 : len_bytes 250 ≡ 0xFA ∷ []
  pub E5-251 : len_bytes 251 ≡ 0xFC ∷ 0xFB ∷ 0x00 ∷ []
  -- time 08 01 00 00 00 00 00 01 00: minus 60,000,000
  pub E6 :
      duration_at (0x08 ∷ 0x01 ∷ 0x00 ∷ 0x00 ∷ 0x00 ∷ 0x00 ∷ 0x00 ∷ 0x01 ∷ 0x00 ∷ []) 0
      ≡ gives (record { value = negsuc 59999999; next = 9 })
  -- 106,751,991 days 4:00:54.775807 accepted; one microsecond more: 11
  pub E7-most :
      duration_of (record { neg = false; days = 106751991; hours = 4; minutes = 0; seconds = 54; micros = 775807 })
      ≡ gives (pos 9223372036854775807)
  pub E7-minus :
      duration_of (record { neg = true; days = 106751991; hours = 4; minutes = 0; seconds = 54; micros = 775807 })
      ≡ gives (negsuc 9223372036854775806)
  pub E7-more : duration_of (record { neg = false; days = 106751991; hours = 4; minutes = 0; seconds = 54; micros = 775808 }) ≡ refused 11
  -- date 05 E8 07 02 1D FF: 2024-02-29, six bytes used
  pub E8 :
      bin_at (0x05 ∷ 0xE8 ∷ 0x07 ∷ 0x02 ∷ 0x1D ∷ 0xFF ∷ []) 0 10 false
      ≡ gives (record { value = Of.Date (record { year = 2024; month = 2; day = 29; hour = 0; minutes = 0; seconds = 0; micros = 0 }); next = 6 })
  -- `a'b` in other mode: 27 61 27 27 62 27
  pub E9 : quoted true (0x61 ∷ 0x27 ∷ 0x62 ∷ []) ≡ 0x27 ∷ 0x61 ∷ 0x27 ∷ 0x27 ∷ 0x62 ∷ 0x27 ∷ []
  -- ten columns, bitmap 04 08: columns 0 and 9 NULL, count 2
  pub E10-0 : null_at (0x04 ∷ 0x08 ∷ []) ServerSide 0 ≡ gives true
  pub E10-9 : null_at (0x04 ∷ 0x08 ∷ []) ServerSide 9 ≡ gives true
  pub E10-count : count_at (0x04 ∷ 0x08 ∷ []) ServerSide 10 ≡ gives 2
  -- and as a row of ten one-byte columns into a list of twelve: eleven bytes used, the two numbers past the ten stay
  pub E10-row :
      row_of
      (0x00 ∷ 0x04 ∷ 0x08 ∷ 11 ∷ 12 ∷ 13 ∷ 14 ∷ 15 ∷ 16 ∷ 17 ∷ 18 ∷ [])
      (1 ∷ 1 ∷ 1 ∷ 1 ∷ 1 ∷ 1 ∷ 1 ∷ 1 ∷ 1 ∷ 1 ∷ [])
      (0 ∷ 0 ∷ 0 ∷ 0 ∷ 0 ∷ 0 ∷ 0 ∷ 0 ∷ 0 ∷ 0 ∷ [])
      (7 ∷ 7 ∷ 7 ∷ 7 ∷ 7 ∷ 7 ∷ 7 ∷ 7 ∷ 7 ∷ 7 ∷ 7 ∷ 7 ∷ [])
      ≡ record { said = gives (record { nulls = 2; used = 11 }); starts = 3 ∷ 3 ∷ 4 ∷ 5 ∷ 6 ∷ 7 ∷ 8 ∷ 9 ∷ 10 ∷ 11 ∷ 7 ∷ 7 ∷ [] }

pub marked : Marked
unfolding len_bytes le_bytes le_of byte_str_at part_of since just time_at time_of duration_of duration_at behind becomes body quoted kind_of date_of bin_at skip_at
    null_bit null_count null_at count_at col_at walk values_of row_of chunks chunks_of pieces cut numbered chunk flatten next after turn_from turn_of turns
    opened read unread_of headed frame_from frame_at drained lap_at laps running read_framed
marked = record {
  E1 = refl;
  E1-next = refl;
  E2 = refl;
  E2-next = refl;
  E3 = refl;
  E3-next = refl;
  E4 = refl;
  E5-250 = refl;
  E5-251 = refl;
  E6 = refl;
  E7-most = refl;
  E7-minus = refl;
  E7-more = refl;
  E8 = refl;
  E9 = refl;
  E10-0 = refl;
  E10-9 = refl;
  E10-count = refl;
  E10-row = refl;
}
