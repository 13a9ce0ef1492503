use Rattle.std.proofs.Common.{◌≡◌, ℕ, List, length, ap, ◌∙◌, subst, rules}
use Rattle.std.specs.List.{AllByRecursion}
use Rattle.node.specs.Sizes.{IsDigest}
use Rattle.node.specs.Writing.{written_string, written_string_end}
use Rattle.calls.specs.Sheets.{stored_digests}
use Rattle.search.specs.Picks.{picks}
use Rattle.sheets.specs.Nodes.{node_of}
use Rattle.sheets.proofs.Writes.{as_written, answered, few_numbers_lem, few_digests, short}
use Rattle.sheets.proofs.strings.write_node.Goals as goal

pub returns : goal.returns
returns c =
    let node = c.args.node.now in
    let out = c.args.out.now in
    let four : length node.numbers ≡ 4 = search rules in
    let three : length node.successors ≡ 3 = search rules in
    let stored = stored_digests c.args.counted.now in
    let numbers = (node_of node).numbers in
    let digests = picks stored (node_of node).successors in
    let same_digests : c.gather-digests.result.now ≡ digests = c.gather-digests.ensures.stored ∙ ap (picks stored) c.successors.ensures in
    let all = subst (λ (t : List ℕ). AllByRecursion IsDigest (picks stored t)) c.successors.ensures c.gather-digests.ensures.whole in
    let few = few_numbers_lem stored node four three in
    let joined = few_digests stored node four three in
    record {
      answer = answered out c.args.at node.kind numbers digests few joined _ c.map_err.result _ c.map_err.ensures.cases (c.write_string.ensures.answer ∙ (λ i. written_string_end out c.args.at node.kind (c.numbers.ensures i) (same_digests i)));
      short = short stored node four three all;
      after = c.write_string.ensures.after ∙ (λ i. written_string out c.args.at node.kind (c.numbers.ensures i) (same_digests i)) ∙ as_written out c.args.at node.kind numbers digests few joined;
    }
