-- Of a staging buffer a call reads its unread bytes and its length alone: what stands behind them is the listed exception.
use Rattle.std.specs.Prelude.{◌≡◌, ℕ, List, length}
use Rattle.frame.specs.Codec.{unread_of}
use Rattle.frame.specs.Read.{read_framed}
use Rattle.frame.specs.declared.PacketCodec.{PacketCodec}

pub unread_only : (m : ℕ) (c : PacketCodec) (u s s' b : List ℕ) → unread_of c s ≡ unread_of c s' → length s ≡ length s'
    → read_framed m c u s b ≡ read_framed m c u s' b
unfolding read_framed
unread_only m c u s s' b e l = rw (e, l)
