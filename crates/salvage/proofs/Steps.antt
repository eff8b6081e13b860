-- What each function stands on.
use Rattle.salvage.specs.SalvageLaws.{chunk_headless, chunk_large, chunk-cut, chunk_takes, chunk_sync, some-most}
use Rattle.salvage.proofs.RunLaws.{going_begins, going_ends, going_none, going_bad, going_within, going_took, search_here, search_later, search_ends}
use Rattle.salvage.proofs.RoundLaws.{bad_within, lost_less, round_ends, round_goes, round_within, round_onward, rest_all, rest_none, rounds-length}
use Rattle.salvage.proofs.RoundLaws.{writing_room, writing_ends}
use Rattle.salvage.proofs.PutLaws.{some_is, none_is, patch_none}

pub ruleset chunk_rules = (chunk_headless, chunk_large, chunk-cut, chunk_takes, chunk_sync)

pub ruleset run_rules = (going_begins, going_ends, going_none, going_bad, going_within, going_took)

pub ruleset search_rules = (search_here, search_later, search_ends)

pub ruleset round_rules = (bad_within, lost_less, round_ends, round_goes)

pub ruleset count_rules = (round_within, round_onward, rest_all, rest_none, rounds-length, some-most)

pub ruleset write_rules = (writing_room, writing_ends, round_within, round_onward)

pub ruleset put_rules = (some_is, none_is, patch_none)
