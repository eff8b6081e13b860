-- What was written is read back: each packet, with and without tracking; for every choice of fields in their widths.
use Rattle.refusal.specs.declared.Refusal.{Refusal}
use Rattle.std.specs.Prelude.{ℕ, ◌+◌, ◌-◌, ◌≤◌, ◌<◌, ◌^◌, ◌≡◌, Bool, cond, take, Result}
use Rattle.std.proofs.Math.Path.{refl, sym, ap}
use Rattle.std.proofs.Common.{◌∙◌, arith, drop-drop, take_at, get_or-drop, lt-ltb}
use Rattle.std.proofs.Math.Bool.{true, false}
use mathlib.Core.List.{List, [], ◌∷◌, ◌++◌, append_assoc}
use Rattle.std.proofs.Math.ListN.{length, drop, get_or, length-append, length-drop}
use Rattle.std.proofs.Math.Seq.{drop-append_seam}
use Rattle.refusal.specs.Said.{gives, and_then}
use Rattle.wire.specs.Le.{le_of, le_at, le_bytes}
use Rattle.wire.specs.LeLaws.{le_length}
use Rattle.wire.specs.LenEnc.{len_bytes, str_bytes, part_of}
use Rattle.wire.specs.LenEncLaws.{int_back, str_back, part_back, part_fits, le_back, len_length}
use Rattle.wire.specs.Room.{Wrote}
use Rattle.session.specs.Record.{bytes_of}
use Rattle.session.specs.RecordLaws.{wrote_part}
use Rattle.answer.specs.Answer.{text, texts, rest_of, answered, tracks, texts_at, ok_of, ok_at, answer_at}
use Rattle.answer.specs.AnswerLaws.{ok_numbers, err_read, eof_read}
use Rattle.answer.specs.Written.{words, ok_head, text_bytes, ok_bytes, err_head, err_bytes, eof_bytes}
use Rattle.answer.specs.WrittenLaws.{words-length, ok_head_length, err_head_length}
use Rattle.answer.specs.RoundTrip.{ok_packet, OkBack, ErrBack}
use Rattle.answer.specs.declared.Packet.TheVariants as P
use Rattle.answer.specs.declared.Texts.{Texts}

-- ---- bytes at a place

-- behind bytes that stand at a place
pub past : (s : List ℕ) (at n : ℕ) (a b : List ℕ) → drop at s ≡ a ++ b → n ≡ at + length a → drop n s ≡ b
past s at n a b e f = ap (λ (m : ℕ). drop m s) f ∙ sym (drop-drop (length a) at s) ∙ ap (drop (length a)) e ∙ drop-append_seam a b

-- a number that stands at a place
num_back : (s : List ℕ) (at k v : ℕ) (t : List ℕ) → v < 256 ^ k → drop at s ≡ le_bytes k v ++ t → le_at s at k ≡ v
num_back s at k v t h e = ap le_of (ap (take k) e ∙ take_at (le_bytes k v) t k (le_length k v)) ∙ le_back k v h

-- a part that stands at a place
pub stands : (s : List ℕ) (at n : ℕ) (a b : List ℕ) → n ≡ length a → at ≤ length s → drop at s ≡ a ++ b → part_of s at n ≡ a
stands s at n a b f l e =
    part_fits s at n (omega (arith, f, ap length e, length-append a b, length-drop at s)) ∙ ap (take n) e ∙ take_at a b n (sym f)

-- nothing at a place
none : (s : List ℕ) (at : ℕ) → at ≤ length s → part_of s at 0 ≡ []
none s at h = part_fits s at 0 (omega arith)

pub append-nil : (l : List ℕ) → l ++ [] ≡ l
append-nil [] = refl
append-nil (x ∷ l) = ap (λ (k : List ℕ). x ∷ k) (append-nil l)

-- ---- OK

-- message and records stand at a place, and nothing behind them where the message runs to the end
record TextsBack (s : List ℕ) (at : ℕ) (tracking more : Bool) (message records : List ℕ) : Type 0 where
  found : Texts
  read : texts_at s at tracking more ≡ gives found
  message_is : bytes_of s found.message ≡ message
  records_are : bytes_of s found.records ≡ cond tracking (cond more records []) []
  ends : found.records.at + found.records.len ≡ at + length (text_bytes tracking more message records)

module _ (s : List ℕ) (at : ℕ) (message records t : List ℕ) (l : at ≤ length s) where
  plain_texts : (more : Bool) → drop at s ≡ message → TextsBack s at false more message records
  unfolding texts_at
  plain_texts more e =
      let n : length s ≡ at + length message = omega (arith, ap length e, length-drop at s) in
      record {
        found = texts (rest_of s at) (text (length s) 0);
        read = refl;
        message_is = stands s at (length s - at) message [] (omega arith) l (e ∙ sym (append-nil message));
        records_are = none s (length s) (omega arith);
        ends = omega arith;
      }

  module _ (h : length message < 2 ^ 64) (k : length records < 2 ^ 64) where
    abbrev first : ℕ
    first = at + length (len_bytes (length message))

    abbrev second : ℕ
    second = first + length message + length (len_bytes (length records))

    some : (rest : List ℕ) → drop at s ≡ str_bytes message ++ rest → at < length s
    some rest e =
        omega (
          arith,
          ap length e,
          length-drop at s,
          length-append (str_bytes message) rest,
          length-append (len_bytes (length message)) message,
          len_length (length message),
        )

    tracked_texts_lem : (more : Bool) → drop at s ≡ text_bytes true more message records ++ t → TextsBack s at true more message records
    unfolding texts_at
    tracked_texts_lem true e =
        let f : drop at s ≡ str_bytes message ++ (str_bytes records ++ t) = e ∙ append_assoc (str_bytes message) (str_bytes records) t in
        let g : drop (first + length message) s ≡ str_bytes records ++ t =
        past s at (first + length message) (str_bytes message) (str_bytes records ++ t) f (simp length-append (omega arith)) in
        record {
          found = texts (text first (length message)) (text second (length records));
          read =
              simp (lt-ltb at (length s) (some (str_bytes records ++ t) f), str_back s at (str_bytes records ++ t) message h f)
              (rw (str_back s (first + length message) t records k g));
          message_is = part_back s at message (str_bytes records ++ t) f;
          records_are = part_back s (first + length message) records t g;
          ends = simp length-append (omega arith);
        }
    tracked_texts_lem false e =
        let n : first + length message ≤ length s =
        omega (arith, ap length e, length-drop at s, length-append (str_bytes message) t, length-append (len_bytes (length message)) message) in
        record {
          found = texts (text first (length message)) (text (first + length message) 0);
          read = simp (lt-ltb at (length s) (some t e), str_back s at t message h e);
          message_is = part_back s at message t e;
          records_are = none s (first + length message) n;
          ends = simp length-append (omega arith);
        }

-- the numbers, and what stands behind them
module _ (rows id status warnings : ℕ) (hr : rows < 2 ^ 64) (hi : id < 2 ^ 64) (hs : status < 2 ^ 16) (hw : warnings < 2 ^ 16) where
  abbrev size : ℕ
  size = length (ok_head rows id status warnings)

  apart : (rest : List ℕ)
      → ok_head rows id status warnings ++ rest ≡ 0x00 ∷ (len_bytes rows ++ (len_bytes id ++ (le_bytes 2 status ++ (le_bytes 2 warnings ++ rest))))
  apart rest =
      append_assoc ((0x00 ∷ []) ++ len_bytes rows ++ len_bytes id) (words status warnings) rest
      ∙ append_assoc ((0x00 ∷ []) ++ len_bytes rows) (len_bytes id) (words status warnings ++ rest)
      ∙ ap (λ (l : List ℕ). 0x00 ∷ (len_bytes rows ++ (len_bytes id ++ l))) (append_assoc (le_bytes 2 status) (le_bytes 2 warnings) rest)

  module _ (s rest : List ℕ) (e : s ≡ ok_head rows id status warnings ++ rest) where
    whole : s ≡ 0x00 ∷ (len_bytes rows ++ (len_bytes id ++ (le_bytes 2 status ++ (le_bytes 2 warnings ++ rest))))
    whole = e ∙ apart rest

    behind : drop size s ≡ rest
    behind = ap (drop size) e ∙ drop-append_seam (ok_head rows id status warnings) rest

    fits : length s ≡ size + length rest
    fits = ap length e ∙ length-append (ok_head rows id status warnings) rest

    numbers_back : (tracking : Bool)
        → answer_at s tracking ≡ and_then (texts_at s size tracking (tracks status)) (λ t. gives (ok_of rows id status warnings t))
    unfolding answer_at ok_at
    numbers_back tracking =
        let n = 1 + length (len_bytes rows) in
        let m = n + length (len_bytes id) in
        let tail₄ = le_bytes 2 warnings ++ rest in
        let tail₃ = le_bytes 2 status ++ tail₄ in
        let tail₂ = len_bytes id ++ tail₃ in
        let d₁ : drop 1 s ≡ len_bytes rows ++ tail₂ = ap (drop 1) whole in
        let d₂ : drop n s ≡ len_bytes id ++ tail₃ = past s 1 n (len_bytes rows) tail₂ d₁ refl in
        let d₃ : drop m s ≡ le_bytes 2 status ++ tail₄ = past s n m (len_bytes id) tail₃ d₂ refl in
        let d₄ : drop (m + 2) s ≡ le_bytes 2 warnings ++ rest = past s m (m + 2) (le_bytes 2 status) tail₄ d₃ (omega (arith, le_length 2 status)) in
        let z : size ≡ m + 4 = omega (arith, ok_head_length rows id status warnings) in
        let lead : get_or s 0 0 ≡ 0x00 = ap (λ (l : List ℕ). get_or l 0 0) whole in
        rw (lt-ltb 0 (length s) (omega (arith, fits, z)), lead)
        (rw (int_back s 1 tail₂ rows hr d₁)
        (rw (int_back s n tail₃ id hi d₂)
        (rw (ok_numbers s tracking rows id m (omega (arith, fits, z)), num_back s m 2 status tail₄ hs d₃, num_back s (m + 2) 2 warnings rest hw d₄, z) refl)))

    ok_made : (message records : List ℕ) (tracking : Bool) → TextsBack s size tracking (tracks status) message records
        → OkBack rows id status warnings message records tracking s
    ok_made message records tracking b =
        let n : size + length (text_bytes tracking (tracks status) message records) ≡ length (ok_bytes rows id status warnings message records tracking) =
        sym (length-append (ok_head rows id status warnings) (text_bytes tracking (tracks status) message records)) in
        record {
          said = b.found.message;
          listed = b.found.records;
          read =
              numbers_back tracking ∙ rw b.read
              (ap (λ (k : ℕ). gives (answered (P.Ok (ok_packet rows id status warnings b.found.message b.found.records)) k)) (b.ends ∙ n));
          message_is = b.message_is;
          records_are = b.records_are;
          ends = b.ends ∙ n;
        }

  -- Under tracking, whatever stands behind the packet
  pub ok_tracked_back : (message records t : List ℕ) → length message < 2 ^ 64 → length records < 2 ^ 64
      → OkBack rows id status warnings message records true (ok_bytes rows id status warnings message records true ++ t)
  ok_tracked_back message records t h k =
      let body = text_bytes true (tracks status) message records in
      let s = ok_bytes rows id status warnings message records true ++ t in
      let e : s ≡ ok_head rows id status warnings ++ (body ++ t) = append_assoc (ok_head rows id status warnings) body t in
      ok_made s (body ++ t) e message records true
      (tracked_texts_lem s size message records t (omega (arith, fits s (body ++ t) e)) h k (tracks status) (behind s (body ++ t) e))

  -- Without, the packet by itself: its message runs to the end
  pub ok_plain_back : (message records : List ℕ) → OkBack rows id status warnings message records false (ok_bytes rows id status warnings message records false)
  ok_plain_back message records =
      let s = ok_bytes rows id status warnings message records false in
      ok_made s message refl message records false
      (plain_texts s size message records [] (omega (arith, fits s message refl)) (tracks status) (behind s message refl))

-- ---- ERR

pub err_back : (code : ℕ) (state message : List ℕ) (tracking : Bool) → code < 2 ^ 16 → length state ≡ 5
    → ErrBack code state message tracking (err_bytes code state message)
unfolding answer_at
err_back code state message tracking hc five =
    let s = err_bytes code state message in
    let n : length s ≡ 9 + length message = length-append (err_head code state) message ∙ ap (λ (k : ℕ). k + length message) (err_head_length code state five) in
    let whole : s ≡ 0xFF ∷ (le_bytes 2 code ++ (0x23 ∷ (state ++ message))) =
    append_assoc ((0xFF ∷ []) ++ le_bytes 2 code ++ (0x23 ∷ [])) state message
    ∙ append_assoc ((0xFF ∷ []) ++ le_bytes 2 code) (0x23 ∷ []) (state ++ message) in
    let d₁ : drop 1 s ≡ le_bytes 2 code ++ (0x23 ∷ (state ++ message)) = ap (drop 1) whole in
    let d₃ : drop 3 s ≡ (0x23 ∷ []) ++ (state ++ message) = past s 1 3 (le_bytes 2 code) (0x23 ∷ (state ++ message)) d₁ (omega (arith, le_length 2 code)) in
    let d₄ : drop 4 s ≡ state ++ message = past s 3 4 (0x23 ∷ []) (state ++ message) d₃ refl in
    let d₉ : drop 9 s ≡ message = past s 4 9 state message d₄ (omega (arith, five)) in
    let lead : get_or s 0 0 ≡ 0xFF = ap (λ (l : List ℕ). get_or l 0 0) whole in
    let mark : get_or s 3 0 ≡ 0x23 = sym (get_or-drop 3 s 0 0) ∙ ap (λ (l : List ℕ). get_or l 0 0) d₃ in
    record {
      sort = text 4 5;
      said = text 9 (length s - 9);
      read =
          rw (lt-ltb 0 (length s) (omega (arith, n)), lead)
          (err_read s (omega (arith, n)) mark (omega (arith, n))
          ∙ ap
          (λ (k : ℕ). gives (answered (P.Err (record { code = k; state = text 4 5; message = text 9 (length s - 9) })) (length s)))
          (num_back s 1 2 code (0x23 ∷ (state ++ message)) hc d₁));
      state_is = stands s 4 5 state message (sym five) (omega (arith, n)) d₄;
      message_is = stands s 9 (length s - 9) message [] (omega (arith, n)) (omega (arith, n)) (d₉ ∙ sym (append-nil message));
    }

-- ---- EOF, with at most three bytes behind it

pub eof_back : (warnings status : ℕ) (t : List ℕ) (tracking : Bool) → warnings < 2 ^ 16 → status < 2 ^ 16 → length t < 4
    → answer_at (eof_bytes warnings status ++ t) tracking
    ≡ gives (answered (P.Eof (record { warnings = warnings; status = status })) (length (eof_bytes warnings status)))
unfolding answer_at
eof_back warnings status t tracking hw hs l =
    let s = eof_bytes warnings status ++ t in
    let five : length (eof_bytes warnings status) ≡ 5 = omega (arith, words-length warnings status) in
    let n : length s ≡ 5 + length t = length-append (eof_bytes warnings status) t ∙ ap (λ (k : ℕ). k + length t) five in
    let d₁ : drop 1 s ≡ le_bytes 2 warnings ++ (le_bytes 2 status ++ t) = append_assoc (le_bytes 2 warnings) (le_bytes 2 status) t in
    let d₃ : drop 3 s ≡ le_bytes 2 status ++ t = past s 1 3 (le_bytes 2 warnings) (le_bytes 2 status ++ t) d₁ (omega (arith, le_length 2 warnings)) in
    rw (lt-ltb 0 (length s) (omega (arith, n)), lt-ltb (length s) 9 (omega (arith, n)), five)
    (eof_read s (omega (arith, n))
    ∙ rw (num_back s 1 2 warnings (le_bytes 2 status ++ t) hw d₁, num_back s 3 2 status t hs d₃) refl)

-- ---- a buffer in between

-- what holds of the bytes that a writer was to write holds of the part of the buffer that it filled
pub through : (Holds : List ℕ → Type 0) {bs d : List ℕ} {at : ℕ} {r : Result ℕ Refusal} {d' : List ℕ} → at + length bs ≤ length d → Wrote bs d at r d'
    → Holds bs → Holds (part_of d' at (length bs))
through Holds h w p = rw (wrote_part w h) p
