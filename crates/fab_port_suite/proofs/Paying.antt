-- Once a frame is taken that ends an item which owes a reply, one more is owed.
use Rattle.std.proofs.Common.{◌≡◌, ◌+◌, ℕ, true, List, [], ◌∷◌, ◌++◌, Option, Some, None, refl, ◌∙◌, ap, arith}
use Rattle.std.specs.Prelude.{◌==◌}
use Rattle.std.proofs.lemmas.Bool.Decides.{nat_tests}
use Rattle.fab_base.specs.declared.frames.Frame.{Frame}
use Rattle.fab_base.specs.declared.frames.FrameHead.{FrameHead}
use Rattle.fab_link.specs.Owing.{ends_owing, owing, IsOwed}
use Rattle.fab_link.proofs.Owed.{owing-append}
use Rattle.fab_link.specs.Meaning.{Outgoing, Incoming, Owes, advanced}
use Rattle.fab_port_suite.specs.Answering.{HasLent}

pub owes_one : (o o' : Outgoing) (i j k : Incoming) (request : FrameHead) → Owes o i request.item.op 0 → o' ≡ o → j.taken ≡ i.taken → HasLent j request → ends_owing request ≡ true → k ≡ advanced j → Owes o' k request.item.op 1
owes_one o o' i j k request owes same still (f, lent, at) ends took = go o.owed refl
  where
    taken : k.taken ≡ i.taken ++ f ∷ []
    taken = ap (λ (z : Incoming). z.taken) took ∙ (rw lent (ap (λ (z : List Frame). z ++ f ∷ []) still))

    one : owing request.item.op (f ∷ []) ≡ 1
    one = let last : ends_owing f.head ≡ true = ap ends_owing at ∙ ends in
        let yes_ : (f.head.item.op == request.item.op) ≡ true = (let e : f.head.item.op ≡ request.item.op = ap (λ (z : FrameHead). z.item.op) at in grind (arith, nat_tests, e)) in
        rw (last, yes_) refl

    go : (w : Option (ℕ → ℕ)) → o.owed ≡ w → Owes o' k request.item.op 1
    go None e = rw (same, e) tt
    go (Some before) e =
        let le : IsOwed before o.frames i.taken request.item.op 0 = rw e at owes in
        let more : owing request.item.op (i.taken ++ f ∷ []) ≡ owing request.item.op i.taken + owing request.item.op (f ∷ []) = owing-append request.item.op i.taken (f ∷ []) in
        rw (same, e, taken) (omega (arith, le, more, one))
