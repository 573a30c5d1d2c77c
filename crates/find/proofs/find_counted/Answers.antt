-- `find::find_counted`: the number of a search in all rows, taken apart. Assumes nothing.
use Rattle.std.proofs.Common.{◌∙◌, ap, arith}
use Rattle.find.specs.Search.{found_row}
use Rattle.find.proofs.Way.{is_numbered, is_found, is_counted, at_most_nine}
use Rattle.find.proofs.find_counted.Goals as goal

pub returns : goal.returns
returns c =
    let n = is_counted c.args.index c.args.sub _ c.halve-number.ensures in
    record {
      found = c.row_of.ensures ∙ ap found_row (is_found c.args.index c.args.sub _ c.halve-number.ensures);
      looked = n;
      most = omega (arith, n, at_most_nine c.args.index c.args.sub);
    }

pub row_of-requires : goal.row_of-requires
row_of-requires c =
    is_numbered c.args.index c.args.sub _ c.halve-number.ensures
