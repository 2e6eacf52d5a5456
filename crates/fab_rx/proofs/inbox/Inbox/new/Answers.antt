use Rattle.std.proofs.Common.{Option, None, arith, refl}
use Rattle.std.proofs.lemmas.List.{length-replicate}
use Rattle.fab_rx.specs.declared.stored.Begun.{Begun}
use Rattle.fab_rx.proofs.Moving.{multi_begins}
use Rattle.fab_rx.proofs.Numbering.{numbers_begin}
use Rattle.fab_rx.proofs.Known.{opens}
use Rattle.fab_rx.proofs.Claiming.{claims_begin}
use Rattle.fab_rx.proofs.inbox.Inbox.new.Goals as goal

pub invariant_of-result : goal.invariant_of-result
invariant_of-result g c =
    rw c.in_ok-past.ensures (record {
      kept = opens c.args.peers c.args.most _ _ _ _ _ _ c.in_ok-matcher.ensures.posted c.in_ok-matcher.ensures.unexpected c.in_ok-matcher.ensures.room c.in_ok-coming.ensures;
      shared = multi_begins _ _ _ _ _ _ c.in_ok-matcher.ensures.posted c.in_ok-closing.ensures.items c.in_ok-seats.ensures.room c.in_ok-coming.ensures;
      closable = rw c.in_ok-coming.ensures (let long = length-replicate {A = Option Begun} c.args.peers None in let room = c.in_ok-closing.ensures.capacity in omega arith);
      ids = c.in_ok-seats.ensures.few;
      sharing = λ none. refl;
      numbers = numbers_begin c.args.peers;
      aside = rw c.new-4.ensures.items (claims_begin _ _ _ _ c.in_ok-matcher.ensures.unexpected c.new-3.ensures);
    })
