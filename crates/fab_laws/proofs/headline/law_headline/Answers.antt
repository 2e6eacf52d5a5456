-- Where a schedule is lawful some order of turns takes all its steps, and wherever turns lead each law of scripts holds.
use Rattle.std.proofs.Common.{List, refl, sym}
use Rattle.fab_base.specs.declared.peers.Step.{Step}
use Rattle.fab_base.specs.declared.script.Bound.{Bound}
use Rattle.fab_model.specs.Orders.{Turn}
use Rattle.fab_model.specs.Peers.{Actor}
use Rattle.fab_model.specs.Replay.{Lawful, replayed}
use Rattle.fab_laws.specs.Scripts.{ScriptLeadTo}
use Rattle.fab_laws.specs.Headline.{Headline, HoldsOfAll}
use Rattle.fab_laws.proofs.headline.law_headline.Goals as goal

pub returns : goal.returns
returns c = record { headline = headline }
  where
    -- wherever turns lead
    of_all : (bound : Bound) (turns : List (Turn Step)) (states : List Actor) → ScriptLeadTo bound turns states → HoldsOfAll bound turns states
    of_all bound turns states leads p a here = record {
      first = c.script_streams.ensures.sent bound turns states leads p a here;
      posted = c.script_streams.ensures.posted bound turns states leads p a here;
      arrived = c.script_streams.ensures.arrived bound turns states leads p a here;
      arrived_posted = c.script_streams.ensures.asked bound turns states leads p a here;
      behind = c.script_streams.ensures.behind bound turns states leads p a here;
      takes_all = c.script_streams.ensures.rest bound turns states leads p a here;
      got = c.script_history.ensures.got bound turns states leads p a here;
      taken = c.script_l3.ensures.taken bound turns states leads p a here;
      served = c.script_l2.ensures.served bound turns states leads p a here;
      passed = c.script_l1.ensures.passed bound turns states leads p a here;
      entries = c.script_messages.ensures.entries bound turns states leads p a here;
      receives = c.script_messages.ensures.receives bound turns states leads p a here;
      sized = c.script_messages.ensures.sized bound turns states leads p a here;
      told = c.script_receives.ensures.got bound turns states leads p a here;
      took = c.script_receives.ensures.took bound turns states leads p a here;
      only = c.script_receives.ensures.only bound turns states leads p a here;
      places = c.script_multi.ensures.places bound turns states leads p a here;
      closes = c.script_multi.ensures.closes bound turns states leads p a here;
      parts = c.script_multi.ensures.parts bound turns states leads p a here;
      released = c.script_multi.ensures.released bound turns states leads p a here;
      back = c.script_multi.ensures.back bound turns states leads p a here;
      each = c.script_multi.ensures.each bound turns states leads p a here;
      freed = (c.script_claims.ensures.freed bound turns states leads p a here).0;
      slips = (c.script_claims.ensures.freed bound turns states leads p a here).1;
      aside = c.script_claims.ensures.stays bound turns states leads p a here;
      own = c.script_claims.ensures.takes bound turns states leads p a here;
      fates = c.script_receives.ensures.all bound turns states leads p a here;
      leaves = c.script_receives.ensures.once bound turns states leads p a here;
      lost = c.script_claims.ensures.lost bound turns states leads p a here;
      once = c.script_l4.ensures.once bound turns states leads p a here;
      numbers = c.script_l4.ensures.numbers bound turns states leads p a here;
    }

    headline : (bound : Bound) (schedule : List (List Step)) → Lawful bound schedule → Headline bound schedule
    headline bound schedule lawful =
        let states = (replayed bound schedule).states in
        let order = (c.law_l5.ensures.lawful bound schedule states).1 (lawful, refl) in
        record {
          turns = order.0;
          steps = order.2;
          leads = order.1;
          holds = of_all bound order.0 states order.1;
          every = λ turns last steps leads. (sym ((c.law_l5.ensures.lawful bound schedule last).0 (turns, leads, steps)).1, of_all bound turns last leads);
          reads = c.law_messages.ensures.reads;
          drained = (c.law_scripts.ensures.rest states).1;
        }
