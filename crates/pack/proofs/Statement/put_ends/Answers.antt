use Rattle.std.proofs.Common.{arith}
use Rattle.pack.specs.PlanLaws.{fine_at}
use Rattle.pack.specs.WalkLaws.{rest_begin}
use Rattle.pack.proofs.Groups.{rest_joins, rest_opens}
use Rattle.pack.proofs.Statement.put_ends.Goals as goal
use Rattle.pack.proofs.Statement.put_ends.Goals.{in-Some, in-None}

pub loop-i-init : goal.loop-i-init
loop-i-init c =
    let a = c.args in
    rw c.from.ensures (
      fine_at a.self.overhead a.self.limit a.rows.now c.requires.1 0 c.requires.0,
      rest_begin a.self.overhead a.self.limit a.rows.now a.ends.now c.requires.0,
    )

pub loop-i-preserved : goal.loop-i-preserved
loop-i-preserved c =
    let a = c.args in
    let l = c.loop-i in
    elim c.match-joined.branch [
      | in-Some w ↦
          rw (w.used-is, w.n-is, w.ends-is, w.in-Some.ensures.1) (
            w.in-Some.ensures.0,
            rest_joins a.self.overhead a.self.limit a.rows.now l.i l.used l.n (omega arith) a.ends.now l.ends l.invariant.1 w.in-Some.ensures.0,
          )
      | in-None w ↦
          rw (w.used-is, w.n-is, w.ends-is, w.from-in-None.ensures) (
            fine_at a.self.overhead a.self.limit a.rows.now c.requires.1 l.i (omega arith),
            rest_opens a.self.overhead a.self.limit a.rows.now l.i l.used l.n (omega arith) a.ends.now l.ends l.invariant.1 (omega (arith, w.in-None.ensures)),
          )
    ]
