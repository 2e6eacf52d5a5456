use Rattle.std.proofs.Common.{◌≡◌, ◌==◌, ◌&&◌, ◌∙◌, ap, sym, ℕ}
use Rattle.std.specs.Prelude.{find}
use Rattle.fab_match.specs.Signs.{fits}
use Rattle.fab_match.specs.Bins.{exact_bin, open_bin, masked_bin}
use Rattle.fab_match.specs.Bucket.{cards}
use Rattle.fab_match.specs.Numbers.{earlier, Rising}
use Rattle.fab_match.specs.Filed.{loose_count}
use Rattle.fab_match.proofs.Matching.{first_of_three, first_of_one}
use Rattle.fab_match.proofs.bin_matcher.first_numbered.Goals as goal

pub returns-then-loose-eq0 : goal.returns-then-loose-eq0
returns-then-loose-eq0 c =
    let none : loose_count (cards c.args.posted.now) ≡ 0 = sym c.requires.loose ∙ c.if-loose-eq0.true in
    c.first_near-of_source.ensures
    ∙ (ap (λ k. (find (λ card. (card.near == k) && fits card.item c.args.sign.now) (cards c.args.posted.now))) c.exact_bin-exact.ensures.exact
    ∙ first_of_one c.args.posted.now.near.heads c.args.sign.now (cards c.args.posted.now) c.requires.bins none)

pub returns : goal.returns
returns c =
    let numbers : (limit : ℕ) × Rising limit (cards c.args.posted.now) = c.requires.numbers in
    let one : c.first_near-of_source.result ≡ find (λ card. (card.near == exact_bin c.args.posted.now.near.heads c.args.sign.now.tagged c.args.sign.now.tag c.args.sign.now.source) && fits card.item c.args.sign.now) (cards c.args.posted.now) = c.first_near-of_source.ensures ∙ ap (λ k. (find (λ card. (card.near == k) && fits card.item c.args.sign.now) (cards c.args.posted.now))) c.exact_bin-exact.ensures.exact in
    let two : c.first_near-of_any.result ≡ find (λ card. (card.near == open_bin c.args.posted.now.near.heads c.args.sign.now.tagged c.args.sign.now.tag) && fits card.item c.args.sign.now) (cards c.args.posted.now) = c.first_near-of_any.ensures ∙ ap (λ k. (find (λ card. (card.near == k) && fits card.item c.args.sign.now) (cards c.args.posted.now))) c.open_bin-open.ensures.exact in
    let three : c.first_near-masked.result ≡ find (λ card. (card.near == masked_bin c.args.posted.now.near.heads) && fits card.item c.args.sign.now) (cards c.args.posted.now) = c.first_near-masked.ensures ∙ ap (λ k. (find (λ card. (card.near == k) && fits card.item c.args.sign.now) (cards c.args.posted.now))) c.masked_bin.ensures.exact in
    let both : c.earlier.result ≡ earlier (find (λ card. (card.near == exact_bin c.args.posted.now.near.heads c.args.sign.now.tagged c.args.sign.now.tag c.args.sign.now.source) && fits card.item c.args.sign.now) (cards c.args.posted.now)) (find (λ card. (card.near == open_bin c.args.posted.now.near.heads c.args.sign.now.tagged c.args.sign.now.tag) && fits card.item c.args.sign.now) (cards c.args.posted.now)) = c.earlier.ensures ∙ (ap (λ o. earlier o c.first_near-of_any.result) one ∙ ap (earlier (find (λ card. (card.near == exact_bin c.args.posted.now.near.heads c.args.sign.now.tagged c.args.sign.now.tag c.args.sign.now.source) && fits card.item c.args.sign.now) (cards c.args.posted.now))) two) in
    c.earlier-2.ensures
    ∙ (ap (λ o. earlier o c.first_near-masked.result) both
    ∙ (ap (earlier (earlier (find (λ card. (card.near == exact_bin c.args.posted.now.near.heads c.args.sign.now.tagged c.args.sign.now.tag c.args.sign.now.source) && fits card.item c.args.sign.now) (cards c.args.posted.now)) (find (λ card. (card.near == open_bin c.args.posted.now.near.heads c.args.sign.now.tagged c.args.sign.now.tag) && fits card.item c.args.sign.now) (cards c.args.posted.now)))) three
    ∙ first_of_three c.args.posted.now.near.heads c.args.sign.now numbers.0 (cards c.args.posted.now) c.requires.bins numbers.1))
