use Rattle.std.proofs.Common.{◌≡◌, ◌≤◌, take}
use Rattle.calls.specs.Sheets.{stored_digests}
use Rattle.std.specs.List.{AllByRecursion}
use Rattle.node.specs.Sizes.{IsDigest}
use Rattle.search.specs.Picks.{picks}
use Rattle.sheets.proofs.strings.gather.Given as goal

-- Of the places looked at so far, the digests found are stored from the first on.
abbrev pub invariant-loop-place : goal.invariant-loop-place
invariant-loop-place l =
    record {
      few : l.found ≤ l.place-index;
      whole : AllByRecursion IsDigest (picks (stored_digests l.counted) (take l.place-index l.places));
      stored : take l.found l.room ≡ picks (stored_digests l.counted) (take l.place-index l.places);
    }
