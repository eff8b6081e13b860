-- Each contract determines all: any two results that it allows are equal, the status, the lent numbers and the buffers alike. Of
-- staging the unread bytes are meant; what stands behind them is the listed exception.
use Rattle.std.proofs.Common.{◌≡◌, ℕ, true, false, cond, List, sym, ◌∙◌}
use Rattle.refusal.specs.Said.{Said}
use Rattle.literal.specs.Checked.{Judged}
use Rattle.frame.specs.Codec.{unread_of}
use Rattle.frame.specs.declared.PacketCodec.{PacketCodec}
use Rattle.codec.specs.Connection.{staging_stays}
use Rattle.salvage.specs.Salvage.{stretches, numbers, counted, salvaged, left_in}
use Rattle.pack.specs.Pack.{judged, plan, planned, leaves}
use Rattle.wire.specs.Room.{patch}
use Rattle.answer.specs.Answer.{answer_at}
use Rattle.mishkeldur.specs.Answers.{answer_numbers, listed, PutsErr}
use Rattle.mishkeldur.specs.Face.{status, holds, flag, flag_no, Puts}
use Rattle.mishkeldur.specs.Literals.{Judges}
use Rattle.mishkeldur.specs.State.{short, codec_of, read_by, Opens, Changes, Reads, Writes, Looks}
use Rattle.mishkeldur.specs.Streams.{OpensStream, Renumbers, Passes}

-- ---- entries whose contract says outright what the status, a number or a list is: `mk_state_size`, `mk_lenenc_int_len`, the starts
-- of `mk_read_row` and `mk_read_params`

pub said_unique : {A : Type 0} {x y v : A} → x ≡ v → y ≡ v → x ≡ y
said_unique e f = e ∙ sym f

-- ---- the readers: each status is that of an answer, and each lent number what the answer gives or what it held

pub status_unique : {A : Type 0} (v : Said A) {r q : ℕ} → r ≡ status v → q ≡ status v → r ≡ q
status_unique v e f = e ∙ sym f

pub number_unique : {A B : Type 0} (v : Said A) (f : A → B) (old : B) {x y : B} → x ≡ holds v f old → y ≡ holds v f old → x ≡ y
number_unique v f old d e = d ∙ sym e

-- ---- the writers of numbers, strings, values, quoted bytes and records

pub puts_unique : {bs d : List ℕ} {at old r q : ℕ} {d₁ d₂ : List ℕ} {n₁ n₂ : ℕ} → Puts bs d at old r d₁ n₁ → Puts bs d at old q d₂ n₂
    → (r ≡ q) × (d₁ ≡ d₂) × (n₁ ≡ n₂)
puts_unique v w = (v.status ∙ sym w.status, v.left ∙ sym w.left, v.next ∙ sym w.next)

-- ---- other programs' quotes: `mk_literal_len`, and `mk_literal` with `said_unique` for its buffer

pub judges_unique : {j : Judged} {len place r q len₁ place₁ len₂ place₂ : ℕ} → Judges j len place r len₁ place₁ → Judges j len place q len₂ place₂
    → (r ≡ q) × (len₁ ≡ len₂) × (place₁ ≡ place₂)
judges_unique v w = (v.status ∙ sym w.status, v.len ∙ sym w.len, v.place ∙ sym w.place)

-- ---- the packet entries

-- `mk_open`
pub opens_unique : {s : List ℕ} {limit r q : ℕ} {s₁ s₂ : List ℕ} → Opens s limit r s₁ → Opens s limit q s₂ → (r ≡ q) × (s₁ ≡ s₂)
opens_unique v w = (v.status ∙ sym w.status, v.state ∙ sym w.state)

-- `mk_frames_on`, `mk_reset_seq_id`, `mk_sync_seq_id`
pub changes_unique : {f : PacketCodec → PacketCodec} {s : List ℕ} {r q : ℕ} {s₁ s₂ : List ℕ} → Changes f s r s₁ → Changes f s q s₂
    → (r ≡ q) × (s₁ ≡ s₂)
changes_unique v w = (v.status ∙ sym w.status, v.state ∙ sym w.state)

-- `mk_look`
pub looks_unique : {s : List ℕ} {r q n f u m k n₁ f₁ u₁ m₁ k₁ n₂ f₂ u₂ m₂ k₂ : ℕ} → Looks s r n f u m k n₁ f₁ u₁ m₁ k₁
    → Looks s q n f u m k n₂ f₂ u₂ m₂ k₂ → (r ≡ q) × (n₁ ≡ n₂) × (f₁ ≡ f₂) × (u₁ ≡ u₂) × (m₁ ≡ m₂) × (k₁ ≡ k₂)
looks_unique v w = (
  v.status ∙ sym w.status,
  v.number ∙ sym w.number,
  v.frame ∙ sym w.frame,
  v.unread ∙ sym w.unread,
  v.framed ∙ sym w.framed,
  v.closed ∙ sym w.closed,
)

-- `mk_read`
pub reads_unique : {s u g b : List ℕ} {old r q : ℕ} {s₁ g₁ b₁ s₂ g₂ b₂ : List ℕ} {used₁ len₁ used₂ len₂ : ℕ}
    → Reads s u g b old r s₁ g₁ b₁ used₁ len₁ → Reads s u g b old q s₂ g₂ b₂ used₂ len₂
    → (r ≡ q) × (used₁ ≡ used₂) × (len₁ ≡ len₂) × (s₁ ≡ s₂) × (b₁ ≡ b₂)
reads_unique v w = (
  v.status ∙ sym w.status,
  v.used ∙ sym w.used,
  v.len ∙ sym w.len,
  v.state ∙ sym w.state,
  v.packet ∙ sym w.packet,
)

-- its staging: the unread bytes, and all of it where it was to stay
pub staging_unique : {s u g b : List ℕ} {old r q : ℕ} {s₁ g₁ b₁ s₂ g₂ b₂ : List ℕ} {used₁ len₁ used₂ len₂ : ℕ}
    → Reads s u g b old r s₁ g₁ b₁ used₁ len₁ → Reads s u g b old q s₂ g₂ b₂ used₂ len₂
    → (short s ≡ false → unread_of (read_by s u g b).next g₁ ≡ unread_of (read_by s u g b).next g₂)
    × (cond (short s) true (staging_stays (codec_of s) g) ≡ true → g₁ ≡ g₂)
staging_unique v w = (λ t. v.unread t ∙ sym (w.unread t), λ t. v.stays t ∙ sym (w.stays t))

-- `mk_write`
pub writes_unique : {s p d : List ℕ} {old r q : ℕ} {s₁ d₁ s₂ d₂ : List ℕ} {n₁ n₂ : ℕ} → Writes s p d old r s₁ d₁ n₁
    → Writes s p d old q s₂ d₂ n₂ → (r ≡ q) × (n₁ ≡ n₂) × (s₁ ≡ s₂) × (d₁ ≡ d₂)
writes_unique v w = (
  v.status ∙ sym w.status,
  v.written ∙ sym w.written,
  v.state ∙ sym w.state,
  v.left ∙ sym w.left,
)

-- ---- damaged captures

-- `mk_stretches`
pub stretches_unique : (limit old : ℕ) (s : List ℕ) {r q n₁ n₂ : ℕ}
    → (r ≡ status (counted limit s)) × (n₁ ≡ holds (counted limit s) (λ n. n) old)
    → (q ≡ status (counted limit s)) × (n₂ ≡ holds (counted limit s) (λ n. n) old)
    → (r ≡ q) × (n₁ ≡ n₂)
stretches_unique limit old s v w = (v.0 ∙ sym w.0, v.1 ∙ sym w.1)

-- `mk_salvage`
pub salvage_unique : (limit old : ℕ) (s d : List ℕ) {r q : ℕ} {d₁ d₂ : List ℕ} {n₁ n₂ : ℕ}
    → (r ≡ status (salvaged limit s d))
    × (d₁ ≡ left_in (salvaged limit s d) (numbers (stretches limit s)) d)
    × (n₁ ≡ holds (salvaged limit s d) (λ n. n) old)
    → (q ≡ status (salvaged limit s d))
    × (d₂ ≡ left_in (salvaged limit s d) (numbers (stretches limit s)) d)
    × (n₂ ≡ holds (salvaged limit s d) (λ n. n) old)
    → (r ≡ q) × (d₁ ≡ d₂) × (n₁ ≡ n₂)
salvage_unique limit old s d v w = (v.0 ∙ sym w.0, v.1 ∙ sym w.1, v.2 ∙ sym w.2)

-- ---- rows packed into statements

-- `mk_plan`: the status, the list of ends and the number of groups
pub plan_unique : (o limit : ℕ) (rows d : List ℕ) (old : ℕ) {r q : ℕ} {d₁ d₂ : List ℕ} {n₁ n₂ : ℕ}
    → (r ≡ status (planned o limit rows d)) × (d₁ ≡ leaves (planned o limit rows d) (plan o limit rows) d)
    × (n₁ ≡ holds (planned o limit rows d) (λ n. n) old)
    → (q ≡ status (planned o limit rows d)) × (d₂ ≡ leaves (planned o limit rows d) (plan o limit rows) d)
    × (n₂ ≡ holds (planned o limit rows d) (λ n. n) old)
    → (r ≡ q) × (d₁ ≡ d₂) × (n₁ ≡ n₂)
plan_unique o limit rows d old v w = (v.0 ∙ sym w.0, v.1 ∙ sym w.1, v.2 ∙ sym w.2)

-- `mk_judge`: the status and the word
pub judge_unique : (o limit : ℕ) (rows proposal : List ℕ) (old : ℕ) {r q a₁ a₂ : ℕ}
    → (r ≡ status (judged o limit rows proposal)) × (a₁ ≡ holds (judged o limit rows proposal) (λ b. flag_no b) old)
    → (q ≡ status (judged o limit rows proposal)) × (a₂ ≡ holds (judged o limit rows proposal) (λ b. flag_no b) old)
    → (r ≡ q) × (a₁ ≡ a₂)
judge_unique o limit rows proposal old v w = (v.0 ∙ sym w.0, v.1 ∙ sym w.1)

-- ---- OK, ERR and EOF packets: `mk_next_record` with `status_unique` and `number_unique`, `mk_put_ok`, `mk_put_eof` and
-- `mk_put_typed_record` with `puts_unique`

-- `mk_read_answer`: the status and the whole list
pub answer_unique : (s d : List ℕ) (tracking : ℕ) {r q : ℕ} {d₁ d₂ : List ℕ}
    → (r ≡ status (listed d (answer_at s (flag tracking))))
    × (d₁ ≡ holds (listed d (answer_at s (flag tracking))) (λ a. patch d 0 (answer_numbers a)) d)
    → (q ≡ status (listed d (answer_at s (flag tracking))))
    × (d₂ ≡ holds (listed d (answer_at s (flag tracking))) (λ a. patch d 0 (answer_numbers a)) d)
    → (r ≡ q) × (d₁ ≡ d₂)
answer_unique s d tracking v w = (v.0 ∙ sym w.0, v.1 ∙ sym w.1)

-- `mk_put_err`
pub puts_err_unique : {code : ℕ} {state message d : List ℕ} {at old r q : ℕ} {d₁ d₂ : List ℕ} {n₁ n₂ : ℕ}
    → PutsErr code state message d at old r d₁ n₁ → PutsErr code state message d at old q d₂ n₂
    → (r ≡ q) × (d₁ ≡ d₂) × (n₁ ≡ n₂)
puts_err_unique v w = (v.status ∙ sym w.status, v.left ∙ sym w.left, v.next ∙ sym w.next)

-- ---- packets longer than any buffer

-- `mk_stream_open`
pub opens_stream_unique : {s : List ℕ} {limit r q : ℕ} {s₁ s₂ : List ℕ} → OpensStream s limit r s₁ → OpensStream s limit q s₂
    → (r ≡ q) × (s₁ ≡ s₂)
opens_stream_unique v w = (v.status ∙ sym w.status, v.state ∙ sym w.state)

-- `mk_stream_seq_id`
pub renumbers_unique : {s : List ℕ} {k r q : ℕ} {s₁ s₂ : List ℕ} → Renumbers s k r s₁ → Renumbers s k q s₂ → (r ≡ q) × (s₁ ≡ s₂)
renumbers_unique v w = (v.status ∙ sym w.status, v.state ∙ sym w.state)

-- `mk_stream_read`
pub passes_unique : {s u : List ℕ} {a n e r q : ℕ} {s₁ s₂ : List ℕ} {used₁ place₁ len₁ ends₁ used₂ place₂ len₂ ends₂ : ℕ}
    → Passes s u a n e r s₁ used₁ place₁ len₁ ends₁ → Passes s u a n e q s₂ used₂ place₂ len₂ ends₂
    → (r ≡ q) × (s₁ ≡ s₂) × (used₁ ≡ used₂) × (place₁ ≡ place₂) × (len₁ ≡ len₂) × (ends₁ ≡ ends₂)
passes_unique v w = (
  v.status ∙ sym w.status,
  v.state ∙ sym w.state,
  v.used ∙ sym w.used,
  v.place ∙ sym w.place,
  v.len ∙ sym w.len,
  v.ends ∙ sym w.ends,
)
