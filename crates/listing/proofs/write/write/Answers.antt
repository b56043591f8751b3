-- The answers to what the check asks of `write`.
use Rattle.std.proofs.Common.{rules, ◌≡◌, ◌<◌, ◌≤◌, length, inl, inr, Err, IfOk, sym, ap, subst, arith}
use Rattle.std.proofs.lemmas.List.{length-take}
use Rattle.std.proofs.lemmas.Grind.{common_steps}
use Rattle.refusals.specs.declared.Refusal.TheVariants.{Short}
use Rattle.design.specs.Table.{lent_in, draft}
use Rattle.states.specs.Views.{loan_of, table_of}
use Rattle.listing.specs.Listed.{longest_text, WrittenTo}
use Rattle.listing.proofs.Granted.{Granted, refused_short, refused_long, written_text, all_rebuild}
use Rattle.listing.proofs.write.write.Goals as goal

pub returns-in_err-nodes : goal.returns-in_err-nodes
returns-in_err-nodes g c =
    let loan = loan_of c.args.schedule.now c.args.nodes.now c.args.couplings.now in
    let old = c.args.out.now in
    let is : c.from_residual.result ≡ Err Short = search rules in
    let few : length c.args.nodes.now < c.args.book.now.counts.nodes = search (rules, arith) in
    record { text = subst (WrittenTo (lent_in loan) (table_of draft c.args.book.now.counts loan) old old) (sym is) (refused_short c.args.book.now.counts loan old (inl few)); few = subst (λ r. IfOk r (λ n. n ≤ longest_text)) (sym is) tt; rebuilds = all_rebuild }

pub returns-in_err-couplings : goal.returns-in_err-couplings
returns-in_err-couplings g c =
    let loan = loan_of c.args.schedule.now c.args.nodes.now c.args.couplings.now in
    let old = c.args.out.now in
    let is : c.from_residual-in_err-couplings.result ≡ Err Short = search rules in
    let few : length c.args.couplings.now < c.args.book.now.counts.couplings = search (rules, arith) in
    record { text = subst (WrittenTo (lent_in loan) (table_of draft c.args.book.now.counts loan) old old) (sym is) (refused_short c.args.book.now.counts loan old (inr few)); few = subst (λ r. IfOk r (λ n. n ≤ longest_text)) (sym is) tt; rebuilds = all_rebuild }

pub returns-then-out-counted : goal.returns-then-out-counted
returns-then-out-counted g c =
    let loan = loan_of c.args.schedule.now c.args.nodes.now c.args.couplings.now in
    let rows : Granted c.args.book.now.counts loan c.in_ok-nodes.nodes.now c.in_ok-couplings.couplings.now = record { has_nodes = search (rules, arith); nodes = grind (arith, common_steps); has_couplings = search (rules, arith); couplings = grind (arith, common_steps) } in
    record { text = refused_long c.args.book.now.counts loan rows c.args.out.now _ _ c.new-counted.ensures.empty c.put_table.ensures.lines (omega arith) c.if-out-counted.true; few = tt; rebuilds = all_rebuild }

pub returns : goal.returns
returns g c =
    let n = c.args.book.now.counts in
    let loan = loan_of c.args.schedule.now c.args.nodes.now c.args.couplings.now in
    let rows : Granted c.args.book.now.counts loan c.in_ok-nodes.nodes.now c.in_ok-couplings.couplings.now = record { has_nodes = search (rules, arith); nodes = grind (arith, common_steps); has_couplings = search (rules, arith); couplings = grind (arith, common_steps) } in
    record {
      text =
          let done = written_text c.args.book.now.counts loan rows c.args.out.now _ _ _ c.put_table-2.new.self c.new-counted.ensures.empty c.put_table.ensures.lines (omega arith) c.if-out-counted.false c.new-listing.ensures.empty c.new-listing.ensures.same_bytes c.put_table-2.ensures.lines in
          (done.0, done.1, search rules);
      few = omega (arith, c.put_table-2.ensures.near, c.new-listing.ensures.empty, ap length rows.nodes, length-take n.nodes loan.nodes, ap length rows.couplings, length-take n.couplings loan.couplings, n.nodes_fit, n.few_nodes, n.couplings_fit, n.few_couplings);
      rebuilds = all_rebuild;
    }
