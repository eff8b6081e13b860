use Rattle.frame.specs.ReadLaws.{frame-headed}
use Rattle.std.proofs.Common.{length}
use Rattle.frame.specs.Codec.{unread_of}
use Rattle.frame.proofs.reader.frame.Goals as goal

pub returns : goal.returns
returns c =
    let a = c.args in
    let unread = unread_of a.codec a.staging.now in
    λ b. rw (frame-headed a.codec a.src.now unread (length a.staging.now) b (rw c.if-codec.false) c.if-src-lt7.false) (c.header.ensures b)
