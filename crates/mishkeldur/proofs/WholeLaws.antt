-- The common case of reading is the reader's: by the bytes of the state alone, of which it changes one.
use Rattle.std.specs.Prelude.{Some, None}
use Rattle.std.proofs.Common.{◌≡◌, ℕ, zero, suc, ◌+◌, ◌-◌, ◌%◌, ◌<◌, ◌≤◌, Bool, true, false, cond, eqb, List, [], ◌∷◌, ◌++◌, length, get_or}
use Rattle.std.proofs.Common.{take, drop, set, sym, refl, ap, ◌∙◌, arith, length-drop, length-set, get_or-drop, get_or-set_other, get_or-take}
use Rattle.std.proofs.Common.{get_or-set_same, take-take, drop-drop, drop-set-lt, take-add, le-ltb, eq-eqb, eqb-true}
use borrow.Author.Tests.{eqb-false}
use Rattle.wire.specs.Le.{le_of, le_at}
use Rattle.wire.specs.LeLaws.{le_part}
use Rattle.wire.specs.Room.{patch}
use Rattle.wire.specs.RoomLaws.{patch_same, cut_later}
use Rattle.chunk.specs.Chunks.{largest, next}
use Rattle.chunk.specs.Read.{packet}
use Rattle.chunk.specs.ReadLaws.{read_whole}
use Rattle.chunk.specs.RoundLaws.{expected}
use Rattle.frame.specs.Codec.{unread_of, last_number}
use Rattle.frame.specs.WholeLaws.{Fits, framed-whole}
use Rattle.frame.specs.declared.PacketCodec.{PacketCodec}
use Rattle.codec.specs.Connection.{read_packet, read_plain}
use Rattle.mishkeldur.specs.Face.{flag_no}
use Rattle.mishkeldur.specs.State.{mark, codec_of, state_bytes, keeping, Reads}
use Rattle.mishkeldur.specs.StateLaws.{length_state}
use Rattle.mishkeldur.specs.Whole.{Idle, Whole, WholeFrame}

-- ---- a state's bytes are kept as they stand, where its flags are 0 or 1

-- the first eight bytes of a list, one by one
front : (s : List ℕ) → 8 ≤ length s → take 8 s
    ≡ get_or s 0 0 ∷ get_or s 1 0 ∷ get_or s 2 0 ∷ get_or s 3 0 ∷ get_or s 4 0 ∷ get_or s 5 0 ∷ get_or s 6 0 ∷ get_or s 7 0 ∷ []
front (a ∷ b ∷ c ∷ d ∷ e ∷ f ∷ g ∷ h ∷ s) l = refl
front (a ∷ b ∷ c ∷ d ∷ e ∷ f ∷ g ∷ []) l = absurd (omega arith)
front (a ∷ b ∷ c ∷ d ∷ e ∷ f ∷ []) l = absurd (omega arith)
front (a ∷ b ∷ c ∷ d ∷ e ∷ []) l = absurd (omega arith)
front (a ∷ b ∷ c ∷ d ∷ []) l = absurd (omega arith)
front (a ∷ b ∷ c ∷ []) l = absurd (omega arith)
front (a ∷ b ∷ []) l = absurd (omega arith)
front (a ∷ []) l = absurd (omega arith)
front [] l = absurd (omega arith)

-- the first 48, in six parts
six : (s : List ℕ) → take 48 s
    ≡ take 8 s ++ take 8 (drop 8 s) ++ take 8 (drop 16 s) ++ take 8 (drop 24 s) ++ take 8 (drop 32 s) ++ take 8 (drop 40 s)
six s = rw (← take-add 8 8 s, ← take-add 16 8 s, ← take-add 24 8 s, ← take-add 32 8 s, ← take-add 40 8 s) refl

mark_stands : (b : ℕ) → b ≡ mark → cond (cond (eqb b mark) false true) 0 mark ≡ b
mark_stands b e = rw e refl

flag_stands : (b : ℕ) → b ≤ 1 → flag_no (eqb b 1) ≡ b
flag_stands zero l = refl
flag_stands (suc zero) l = refl
flag_stands (suc (suc b)) l = absurd (omega arith)

-- a state that has begun nothing
record Calm (mode : ℕ) (s : List ℕ) : Type 0 where
  long : 48 ≤ length s
  byte : (i : ℕ) → get_or s i 0 < 256
  idle : Idle mode s
  two : mode ≤ 1

module _ {mode : ℕ} {s : List ℕ} (k : Calm mode s) where
  abbrev w : Idle mode s
  w = k.idle

  bytes_stand : state_bytes (codec_of s) ≡ take 48 s
  unfolding state_bytes codec_of
  bytes_stand =
      let h = k.long in
      let byte = k.byte in
      rw (
        mark_stands (get_or s 0 0) w.marked,
        flag_stands (get_or s 2 0) (omega (arith, w.waiting)),
        flag_stands (get_or s 5 0) (omega (arith, w.held)),
        flag_stands (get_or s 7 0) (omega (arith, w.framed, k.two)),
        le_part s 8 8 (omega arith) byte,
        le_part s 16 8 (omega arith) byte,
        le_part s 24 8 (omega arith) byte,
        le_part s 32 8 (omega arith) byte,
        le_part s 40 8 (omega arith) byte,
      )
      (ap (λ (x : List ℕ). x ++ take 8 (drop 8 s) ++ take 8 (drop 16 s) ++ take 8 (drop 24 s) ++ take 8 (drop 32 s) ++ take 8 (drop 40 s))
      (sym (front s (omega arith)))
      ∙ sym (six s))

  kept_same : keeping s (codec_of s) ≡ s
  kept_same = ap (patch s 0) bytes_stand ∙ patch_same s 0 48 k.long

-- ---- another number is another byte, and nothing else

module _ {mode : ℕ} {s : List ℕ} (k : Calm mode s) (at v : ℕ) (small : v < 256) (early : at < 8)
    (n₀ : 0 ≡ at → ⊥) (n₂ : 2 ≡ at → ⊥) (n₃ : 3 ≡ at → ⊥) (n₅ : 5 ≡ at → ⊥) (n₇ : 7 ≡ at → ⊥) where
  same : (i : ℕ) → (i ≡ at → ⊥) → get_or (set s at v) i 0 ≡ get_or s i 0
  same i n = get_or-set_other s at i v 0 n

  eight_same : (i : ℕ) → 8 ≤ i → le_at (set s at v) i 8 ≡ le_at s i 8
  eight_same i l = ap (λ (x : List ℕ). le_of (take 8 x)) (drop-set-lt i s at v (omega arith))

  byte_still : (i : ℕ) → get_or (set s at v) i 0 < 256
  byte_still i = by (eqb i at) refl
    where
      by : (x : Bool) → eqb i at ≡ x → get_or (set s at v) i 0 < 256
      by true e = let f : i ≡ at = eqb-true i at e in rw (f, get_or-set_same s at v 0 (omega (arith, k.long))) small
      by false e = rw (same i (eqb-false i at e)) (k.byte i)

  calm_still : Calm mode (set s at v)
  calm_still = record {
    long = rw length-set k.long;
    byte = byte_still;
    idle = record {
      marked = same 0 n₀ ∙ k.idle.marked;
      waiting = same 2 n₂ ∙ k.idle.waiting;
      ahead = same 3 n₃ ∙ k.idle.ahead;
      held = same 5 n₅ ∙ k.idle.held;
      framed = same 7 n₇ ∙ k.idle.framed;
      taken = eight_same 24 (omega arith) ∙ k.idle.taken;
      len = eight_same 40 (omega arith) ∙ k.idle.len;
    };
    two = k.two;
  }

-- what a calm state means, by what it does not fix
abbrev calmly : (mode limit unread size number frame coming : ℕ) → PacketCodec
calmly mode limit unread size number frame coming = record {
  limit = limit;
  taken = 0;
  len = 0;
  unread = unread;
  size = size;
  number = number;
  waiting = false;
  ahead = 0;
  closed = false;
  frame = frame;
  held = false;
  coming = coming;
  framed = eqb mode 1;
}

calm_codec : {mode : ℕ} {s : List ℕ} → Calm mode s → codec_of s ≡ calmly mode (le_at s 8 8) (le_at s 16 8) (le_at s 32 8) (get_or s 1 0) (get_or s 4 0) (get_or s 6 0)
unfolding codec_of
calm_codec k = rw (k.idle.taken, k.idle.len, k.idle.waiting, k.idle.ahead, k.idle.marked, k.idle.held, k.idle.framed) refl

-- a codec that is kept where another calm state stood, with what lies past it the same
kept_as : {mode : ℕ} (s t : List ℕ) (c : PacketCodec) → Calm mode t → drop 48 t ≡ drop 48 s → codec_of t ≡ c → keeping s c ≡ t
kept_as s t c k behind e =
    let n : 0 + length (state_bytes c) ≡ 48 = omega (arith, length_state c) in
    let past : drop (0 + length (state_bytes c)) s ≡ drop (0 + length (state_bytes c)) t = rw n (sym behind) in
    ap (λ (x : List ℕ). state_bytes c ++ x) past ∙ ap (keeping t) (sym e) ∙ kept_same k

-- ---- the two calls

abbrev step : ℕ → ℕ
step k = (k + 1) % 256

module _ (s : List ℕ) (long : 128 ≤ length s) (byte : (i : ℕ) → get_or s i 0 < 256) where
  calm : {mode : ℕ} → mode ≤ 1 → Idle mode s → Calm mode s
  calm l w = record { long = omega arith; byte = byte; idle = w; two = l }

  -- the next chunk's number
  abbrev next-chunk : List ℕ
  next-chunk = set s 1 (step (get_or s 1 0))

  -- and the next frame's
  abbrev next-frame : List ℕ
  next-frame = set next-chunk 4 (step (get_or s 4 0))

  module _ {mode : ℕ} (k : Calm mode s) where
    chunk_calm : Calm mode next-chunk
    chunk_calm =
        calm_still k 1 (step (get_or s 1 0)) (omega arith) (omega arith)
        (λ e. omega arith) (λ e. omega arith) (λ e. omega arith) (λ e. omega arith) (λ e. omega arith)

    frame_calm : Calm mode next-frame
    frame_calm =
        calm_still chunk_calm 4 (step (get_or s 4 0)) (omega arith) (omega arith)
        (λ e. omega arith) (λ e. omega arith) (λ e. omega arith) (λ e. omega arith) (λ e. omega arith)

    chunk_codec : codec_of next-chunk ≡ calmly mode (le_at s 8 8) (le_at s 16 8) (le_at s 32 8) (step (get_or s 1 0)) (get_or s 4 0) (get_or s 6 0)
    chunk_codec =
        calm_codec chunk_calm
        ∙ rw (
          get_or-set_same s 1 (step (get_or s 1 0)) 0 (omega arith),
          get_or-set_other s 1 4 (step (get_or s 1 0)) 0 (λ e. omega arith),
          get_or-set_other s 1 6 (step (get_or s 1 0)) 0 (λ e. omega arith),
          drop-set-lt 8 s 1 (step (get_or s 1 0)) (omega arith),
          drop-set-lt 16 s 1 (step (get_or s 1 0)) (omega arith),
          drop-set-lt 32 s 1 (step (get_or s 1 0)) (omega arith),
        )
        refl

    frame_codec : codec_of next-frame ≡ calmly mode (le_at s 8 8) (le_at s 16 8) (le_at s 32 8) (step (get_or s 1 0)) (step (get_or s 4 0)) (get_or s 6 0)
    frame_codec =
        let n : 4 < length next-chunk = rw length-set (omega arith) in
        calm_codec frame_calm
        ∙ rw (
          get_or-set_same next-chunk 4 (step (get_or s 4 0)) 0 n,
          get_or-set_other next-chunk 4 1 (step (get_or s 4 0)) 0 (λ e. omega arith),
          get_or-set_other next-chunk 4 6 (step (get_or s 4 0)) 0 (λ e. omega arith),
          drop-set-lt 8 next-chunk 4 (step (get_or s 4 0)) (omega arith),
          drop-set-lt 16 next-chunk 4 (step (get_or s 4 0)) (omega arith),
          drop-set-lt 32 next-chunk 4 (step (get_or s 4 0)) (omega arith),
          get_or-set_same s 1 (step (get_or s 1 0)) 0 (omega arith),
          get_or-set_other s 1 6 (step (get_or s 1 0)) 0 (λ e. omega arith),
          drop-set-lt 8 s 1 (step (get_or s 1 0)) (omega arith),
          drop-set-lt 16 s 1 (step (get_or s 1 0)) (omega arith),
          drop-set-lt 32 s 1 (step (get_or s 1 0)) (omega arith),
        )
        refl

  -- what a call says that handed out a packet of len bytes with n bytes used
  given : {u g b : List ℕ} {old n len : ℕ} {s' b' : List ℕ} (c : PacketCodec) → (codec_of s).closed ≡ false
      → read_packet largest (codec_of s) u g b ≡ record { answer = packet len; used = n; next = c; unread = unread_of c g; buf = b' } → keeping s c ≡ s'
      → Reads s u g b old 0 s' g b' n len
  given c o d k =
      let l = le-ltb (length s) 128 long in
      record {
        status = rw (l, d) refl;
        used = rw (l, d) refl;
        len = rw (l, d) refl;
        state = rw (l, d, o) (sym k);
        packet = rw (l, d) refl;
        unread = λ t. rw d refl;
        stays = λ t. refl;
      }

  module _ (u g b : List ℕ) (n : ℕ) (w : Whole s u (length b) n) where
    abbrev at_rest : Calm 0 s
    at_rest = calm (omega arith) w.idle

    plain_call : read_packet largest (codec_of s) u g b
        ≡ record {
          answer = packet (n - 4);
          used = n;
          next = codec_of next-chunk;
          unread = unread_of (codec_of next-chunk) g;
          buf = patch b 0
              (take (n - 4) (drop 4 u));
        }
    unfolding read_packet read_plain unread_of next
    plain_call =
        let h = w.chunk in
        let sum : n - 4 + 4 ≡ n = omega (arith, w.least) in
        let e = read_whole largest None (le_at s 8 8) (get_or s 1 0) u b (omega (arith, h.size, h.front)) (eq-eqb _ _ h.number)
        (omega (arith, h.size, h.limit)) (omega (arith, h.size, h.fits)) (λ z. h.last (h.size ∙ z)) in
        rw (calm_codec at_rest, chunk_codec at_rest, e, ← h.size, sum, h.number) refl

    pub reads_whole : {old : ℕ} → Reads s u g b old 0 next-chunk g (patch b 0 (take (n - 4) (drop 4 u))) n (n - 4)
    reads_whole =
        given (codec_of next-chunk) (ap (λ (c : PacketCodec). c.closed) (calm_codec at_rest)) plain_call
        (kept_as s next-chunk (codec_of next-chunk) (chunk_calm at_rest) (drop-set-lt 48 s 1 (step (get_or s 1 0)) (omega arith)) refl)

  module _ (u g b : List ℕ) (n : ℕ) (w : WholeFrame s u (length g) (length b) n) where
    abbrev framed-rest : Calm 1 s
    framed-rest = calm (omega arith) w.rest.idle

    -- the frame's body is what stands behind its header
    abbrev body : List ℕ
    body = take (le_at u 0 3) (drop 7 u)

    header : le_at body 0 3 ≡ n - 11
    header = ap le_of (take-take 3 (le_at u 0 3) (drop 7 u) (omega (arith, w.size, w.least))) ∙ sym w.chunk.size

    number : get_or body 3 0 ≡ get_or u 10 0
    number = get_or-take (le_at u 0 3) (drop 7 u) 3 0 (omega (arith, w.size, w.least)) ∙ get_or-drop 7 u 3 0

    payload : take (n - 11) (drop 4 body) ≡ take (n - 11) (drop 11 u)
    payload =
        let l : le_at u 0 3 ≡ 4 + (n - 11) = omega (arith, w.size, w.least) in
        let r : 7 + 4 ≤ length u = omega (arith, w.chunk.front) in
        let cut : drop 4 body ≡ take (n - 11) (drop 4 (drop 7 u)) =
        ap (λ (k : ℕ). drop 4 (take k (drop 7 u))) l ∙ sym (cut_later (drop 7 u) 4 (n - 11) (omega (arith, length-drop 7 u))) in
        ap (take (n - 11)) cut ∙ take-take (n - 11) (n - 11) (drop 4 (drop 7 u)) (omega arith) ∙ ap (take (n - 11)) (drop-drop 4 7 u)

    abbrev c : PacketCodec
    c = calmly 1 (le_at s 8 8) (le_at s 16 8) (le_at s 32 8) (get_or s 1 0) (get_or s 4 0) (get_or s 6 0)

    fits : Fits largest c u g b
    fits =
        let h = w.chunk in
        record {
          shut = refl;
          free = refl;
          clean = w.rest.unread;
          plain = refl;
          whole = omega (arith, w.size, w.least, h.front);
          limit = omega (arith, w.size, w.header.limit);
          stored = w.header.stored;
          number = w.header.number;
          staging = omega (arith, w.size, w.header.stages);
          one = omega (arith, w.size, w.least, header);
          sync = rw (number, h.number) (expected (Some (last_number (next (get_or s 4 0)))) (get_or s 1 0));
          room = omega (arith, header, h.fits);
          last = λ z. h.last (sym header ∙ z);
        }

    framed_call : read_packet largest (codec_of s) u g b
        ≡ record {
          answer = packet (n - 11);
          used = n;
          next = codec_of next-frame;
          unread = unread_of (codec_of next-frame) g;
          buf = patch b 0
              (take (n - 11) (drop 11 u));
        }
    unfolding read_packet unread_of next
    framed_call =
        let sum : le_at u 0 3 + 7 ≡ n = omega (arith, w.size, w.least) in
        rw (
          calm_codec framed-rest,
          frame_codec framed-rest,
          framed-whole largest c u g b fits,
          header,
          number,
          w.chunk.number,
          payload,
          sum,
          w.rest.unread,
          w.rest.held,
          w.rest.coming,
        ) refl

    pub reads_whole-frame : {old : ℕ} → Reads s u g b old 0 next-frame g (patch b 0 (take (n - 11) (drop 11 u))) n (n - 11)
    reads_whole-frame =
        let past : drop 48 next-frame ≡ drop 48 s =
        drop-set-lt 48 next-chunk 4 (step (get_or s 4 0)) (omega arith) ∙ drop-set-lt 48 s 1 (step (get_or s 1 0)) (omega arith) in
        given (codec_of next-frame) (ap (λ (x : PacketCodec). x.closed) (calm_codec framed-rest)) framed_call
        (kept_as s next-frame (codec_of next-frame) (frame_calm framed-rest) past refl)
