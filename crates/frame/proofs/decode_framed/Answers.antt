use Rattle.frame.proofs.Rounds.{head_more, head_last, used_in}
use Rattle.frame.specs.ReadLaws.{framed_open}
use Rattle.chunk.specs.Chunks.{largest}
use Rattle.std.proofs.Common.{sym, ◌∙◌, arith}
use Rattle.frame.proofs.decode_framed.Goals as goal

pub returns-then-r-eq0 : goal.returns-then-r-eq0
returns-then-r-eq0 c =
    let a = c.args in
    let whole = framed_open largest a.codec a.src.now a.staging.now a.dst.now c.if-codec.false c.if-staging-codec.false in (
      head_last _ _ _ _ _ _ _ _ c.loop-r.invariant _ _ _ c.round-r.ensures c.if-r-eq0.true ∙ sym whole,
      λ k. cc,
      λ h. absurd (omega (arith, h)),
    )

pub overflow_add-at : goal.overflow_add-at
overflow_add-at c = omega (arith, used_in _ _ _ _ _ _ _ _ c.loop-r.invariant _ _ _ c.round-r.ensures)

pub loop-r-smaller : goal.loop-r-smaller
loop-r-smaller c = omega (arith, used_in _ _ _ _ _ _ _ _ c.loop-r.invariant _ _ _ c.round-r.ensures)

pub loop-r-preserved : goal.loop-r-preserved
loop-r-preserved c =
    let t = c.round-r in
    head_more _ _ _ _ _ _ _ _ c.loop-r.invariant _ _ _ t.ensures c.if-r-eq0.false t.auto.staging t.auto.dst
