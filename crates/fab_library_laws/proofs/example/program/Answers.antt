use Rattle.std.proofs.Common.{false, sym, ◌∙◌, length, map, ap, subst}
use Rattle.std.proofs.lemmas.List.{length-map}
use Rattle.fab_ring.specs.Gather.{Gathered}
use Rattle.fab_domain.specs.Domain.{port_of}
use Rattle.fab_library_laws.specs.Exchanging.{its_own}
use Rattle.fab_library_laws.specs.Library.{Thread}
use Rattle.fab_library_laws.proofs.Leaving.{some_granted, threads_of}
use Rattle.fab_library_laws.proofs.example.program.Goals as goal

pub close_all-requires : goal.close_all-requires
close_all-requires c =
    let all = c.in_ok-all.all.items in
    let t = threads_of its_own all c.each_exchanges.new.endpoints.items c.each_exchanges.ensures.count c.each_exchanges.ensures.exchanged in (
      c.args.info.now,
      false,
      all,
      t.threads,
      record {
        some = some_granted c.args.info.now c.in_ok-all.ensures.granted;
        opened = c.in_ok-all.ensures.opened;
        count = sym (length-map t.threads (λ (u : Thread). u.endpoint)) ∙ ap length t.are ∙ c.each_exchanges.ensures.count;
        kept = t.kept;
      },
      t.are ∙ sym c.in_ok-held.ensures,
    )

pub returns-in-Ok-clause-lawful : goal.returns-in-Ok-clause-lawful
returns-in-Ok-clause-lawful c =
    let all = c.in_ok-all.all.items in
    let t = threads_of its_own all c.each_exchanges.new.endpoints.items c.each_exchanges.ensures.count c.each_exchanges.ensures.exchanged in (
      all,
      c.each_exchanges.new.endpoints.items,
      c.in_ok-all.ensures.opened,
      record {
        threads = t.threads;
        are = t.are;
        own = t.its;
        run = c.in-Ok.ensures.lawful c.args.info.now false all t.threads (record {
          some = some_granted c.args.info.now c.in_ok-all.ensures.granted;
          opened = c.in_ok-all.ensures.opened;
          count = sym (length-map t.threads (λ (u : Thread). u.endpoint)) ∙ ap length t.are ∙ c.each_exchanges.ensures.count;
          kept = t.kept;
        }) (t.are ∙ sym c.in_ok-held.ensures);
      },
      subst (λ es. Gathered (map port_of es) c.in-Ok.plain.items) c.in_ok-held.ensures c.in-Ok.ensures.gathered,
    )
