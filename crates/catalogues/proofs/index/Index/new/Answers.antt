use Rattle.std.proofs.Common.{sym, ◌∙◌, arith}
use Rattle.catalogues.proofs.FirstFault.{first_long, first_many, first_header, begun}
use Rattle.catalogues.proofs.Indexing.{empty_index}
use Rattle.catalogues.proofs.index.Index.new.Goals as goal
use Rattle.catalogues.proofs.index.Index.new.Goals.{then-text-gt-MOST_BYTES-via-then-text-gt-MOST_BYTES, then-text-gt-MOST_BYTES-via-else-text-gt-MOST_BYTES+then-line_feeds-gt-MOST_LINES, then-text-gt-MOST_BYTES-via-else-text-gt-MOST_BYTES+else-line_feeds-gt-MOST_LINES+then-not-has_header}

pub returns-then-text-gt-MOST_BYTES-clause-err : goal.returns-then-text-gt-MOST_BYTES-clause-err
returns-then-text-gt-MOST_BYTES-clause-err c =
    let t = c.args.text.now in
    elim c.then-text-gt-MOST_BYTES.branch [
      | then-text-gt-MOST_BYTES-via-then-text-gt-MOST_BYTES w ↦ first_long t w.if-text-gt-MOST_BYTES.true
      | then-text-gt-MOST_BYTES-via-else-text-gt-MOST_BYTES+then-line_feeds-gt-MOST_LINES w ↦ first_many t (omega (arith, w.line_feeds.ensures, w.if-line_feeds-gt-MOST_LINES.true))
      | then-text-gt-MOST_BYTES-via-else-text-gt-MOST_BYTES+else-line_feeds-gt-MOST_LINES+then-not-has_header w ↦ first_header t (sym w.has_header.ensures ∙ w.if-not-has_header.true)
    ]

pub invariant_of-index : goal.invariant_of-index
invariant_of-index c =
    let o = begun c.args.text.now (omega arith) (omega (arith, c.line_feeds.ensures)) (sym c.has_header.ensures ∙ c.if-not-has_header.false) in
    record { room = omega arith; order = o; indexed = empty_index c.args.text.now _ o }
