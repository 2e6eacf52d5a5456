use Rattle.std.proofs.Common.{◌++◌, ◌∷◌, [], sym, ap, ◌∙◌, subst, arith, rules}
use Rattle.std.proofs.lemmas.List.{map-append}
use Rattle.std.proofs.lemmas.List.Elements.{All-append, All-cons}
use Rattle.fab_face.specs.Held.{IsOpen}
use Rattle.fab_domain.specs.Domain.{port_of}
use Rattle.fab_domain.specs.Seen.{ring_seen}
use Rattle.fab_library_laws.proofs.closing.close_each.Goals as goal

pub endpoints-preserved : goal.endpoints-preserved
endpoints-preserved c =
    let e = c.in-Some.endpoint in
    record {
      ports = c.push_reserved.ensures.items ∙ (λ i. c.endpoints.invariant.ports i ++ (c.close.ensures.port ∙ ap port_of c.into_inner-inner.ensures) i ∷ []) ∙ sym (map-append port_of c.endpoints.yielded (e ∷ []));
      known = All-append (λ x. IsOpen (ring_seen x)) c.endpoints.yielded (e ∷ []) c.endpoints.invariant.known (All-cons (λ x. IsOpen (ring_seen x)) e [] (subst (λ x. IsOpen (ring_seen x)) c.into_inner-inner.ensures c.known.ensures) (λ k d lt. absurd (omega (arith, lt))));
      room = search rules;
    }
