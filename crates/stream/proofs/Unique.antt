-- Any two results that a contract allows are equal: no two answers say the same.
use Rattle.chunk.specs.ReadLaws.{decoded_same, opened_same}
use Rattle.chunk.specs.declared.Decoded.{Decoded}
use Rattle.stream.specs.declared.Piece.{Piece}
use Rattle.chunk.specs.declared.Shut.{Shut}
use Rattle.std.specs.Prelude.{Result}
use Rattle.std.proofs.Common.{◌≡◌, ℕ, List, sym, ap, ◌∙◌}
use Rattle.chunk.specs.Chunks.{largest}
use Rattle.chunk.specs.Read.{opened_said}
use Rattle.stream.specs.Stream.{opening, Done, done_of, pass, renumbered}
use Rattle.stream.specs.StreamLaws.{answer_same}
use Rattle.stream.specs.declared.Stream.{Stream}

-- ---- pass

done_same : (r r' : Decoded Piece Stream) → done_of r ≡ done_of r' → r ≡ r'
done_same r r' e =
    decoded_same
    (answer_same r.answer r'.answer (ap (λ (d : Done). d.answer) e))
    (ap (λ (d : Done). d.used) e)
    (ap (λ (d : Done). d.next) e)

pub pass_unique : (st : Stream) (u : List ℕ) (r r' : Decoded Piece Stream) → done_of r ≡ pass largest st u → done_of r' ≡ pass largest st u → r ≡ r'
pass_unique st u r r' h h' = done_same r r' (h ∙ sym h')

-- ---- opening, renumber

pub opening_unique : (limit : ℕ) (o o' : Result Stream (Shut Stream)) → opened_said o ≡ opening limit → opened_said o' ≡ opening limit → o ≡ o'
opening_unique limit o o' h h' = opened_same o o' (h ∙ sym h')

pub renumber_unique : (st : Stream) (k : ℕ) (r r' : Stream) → r ≡ renumbered st k → r' ≡ renumbered st k → r ≡ r'
renumber_unique st k r r' h h' = h ∙ sym h'
