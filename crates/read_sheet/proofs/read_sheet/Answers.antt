-- `read_sheet` meets its contract. The header is read as the definition reads it, and what follows is `read_body`'s. Assumes nothing.
use mathlib.Core.Path.{sym}
use native.Mathlib.Omega.{arith}
use lib.ListN.{drop}
use Rattle.std.proofs.lemmas.Result.{err_from_is_err_and}
use Rattle.sheet.specs.Sheet.{current, header_length}
use Rattle.sheet.proofs.Acceptance.{good-counts}
use Rattle.read_header.specs.HeaderRead.{counts_of}
use Rattle.read_sheet.proofs.SheetLaws.{header-whole, refused-by_header, header_read}
use Rattle.read_sheet.proofs.read_sheet.Goals as goal

pub returns-in_err-c : goal.returns-in_err-c
returns-in_err-c c =
    let p = err_from_is_err_and c.from_residual.result c.from_residual.ensures.1 in
    rw (p.1, p.2) (record {
      says = refused-by_header current c.args.s.now _ c.in_err-c.ensures;
      trees_last = tt;
      arrays = tt;
    })

pub read_body-requires : goal.read_body-requires
read_body-requires c =
    let s = c.args.s.now in
    let counts = counts_of c.in_ok-c.c in
    let told = c.in_ok-c.ensures in
    let g = good-counts s counts (drop header_length s) (sym told) in
    record {
      header = header-whole s counts (drop header_length s) told;
      some = let b = g.nodes_least in omega arith;
      few_nodes = g.nodes_most;
      few_links = g.links_most;
    }

pub returns : goal.returns
returns c =
    let r = c.read_body.ensures in
    record {
      says = rw (← header_read current c.args.s.now (counts_of c.in_ok-c.c) c.in_ok-c.ensures) r.says;
      trees_last = r.trees_last;
      arrays = r.arrays;
    }
