use Rattle.bag_text.proofs.Lemmas.{says_manifest, says_reads, says_lists, says_ascending, says_borrowed, says_refused, says_fault}
use Rattle.bag_text.proofs.manifest.read_manifest.Goals as goal

pub returns : goal.returns
returns c =
    let v = c.args.version in
    let a = c.args.algorithm in
    let text = c.args.text.now in
    let read = c.read_lines.ensures in
    record {
      is_manifest = says_manifest v a text _ read;
      reads = says_reads v a text _ read;
      lists = says_lists v a text _ read;
      ascending = says_ascending v a text _ read;
      borrowed = says_borrowed v a text _ read;
      refused = says_refused v a text _ read;
      first_fault = says_fault v a text _ read;
      exact = read;
    }
