-- The lines that are left, read one after another.
use Rattle.std.proofs.Common.{◌≡◌, ℕ, ◌+◌, ◌≤◌, List, [], ◌∷◌, length, map, false, Option, Some, None, sym, ap, ◌∙◌, refl, arith}
use Rattle.std.specs.Prelude.{Result, Ok, Err, unwrap_or}
use Rattle.fab_base.specs.declared.caps.Api.{Api}
use Rattle.fab_base.specs.declared.caps.Info.{Info}
use Rattle.fab_base.specs.declared.script.Script.{Script}
use Rattle.fab_base.specs.declared.status.Why.{Why}
use Rattle.fab_base.specs.declared.status.Why.TheVariants as why
use Rattle.fab_model.specs.Negotiation.{grant}
use Rattle.fab_grammar.specs.Conf.{conf_of}
use Rattle.fab_grammar.specs.Settings.{hints_of}
use Rattle.fab_script.specs.declared.reader.Reader.{Reader}
use Rattle.fab_script.specs.declared.refused.Refused.TheVariants.{Why as Because}
use Rattle.fab_grammar.specs.Before.{Before, nothing, parts_of}
use Rattle.fab_words.specs.Rows.{lines_of}
use Rattle.fab_grammar.specs.Rules.{is_late, why_of, with_line}
use Rattle.fab_grammar.proofs.RuleLemmas.{in_time}
use Rattle.fab_script.specs.Parts.{Holds, Answers}
use Rattle.fab_grammar.specs.Grammar.{Refusal, script_with, granted, of_peers, read_lines, verdict, then_script, script_said}
use Rattle.fab_spell.proofs.Saying.{not_late as below}
use Rattle.fab_spell.proofs.Written.{line_taken, no_line}

-- The lines before are taken: what they say, which the reader has, and what the lines that are left make of it.
pub record Progress (bytes : List ℕ) (left : ℕ × List (List ℕ)) (reader : Reader) : Type 0 where
  pub before : Before
  pub holds : Holds reader before
  pub rest : read_lines nothing 1 (lines_of bytes) ≡ read_lines before (left.0 + 1) left.1
  pub count : length (lines_of bytes) ≡ left.0 + length left.1
  pub few : left.0 ≤ 100000

-- where no line is refused
pub script_made : (api : Api) (count n : ℕ) (info : Info) (reader : Reader) (before : Before) → Holds reader before → reader.api ≡ Some api → reader.settings.peers ≡ Some n → grant api (Some (hints_of reader.settings)) ≡ Some info → script_said count before ≡ Ok (script_with api (conf_of reader.settings n info) reader.payloads.items (map (λ part. part.items) reader.parts.lines.items))
unfolding script_said
script_made api count n info reader before h header peers given =
    let said : before.settings.peers ≡ Some n = ap (λ s. s.peers) (sym h.settings) ∙ peers in
    let grants : grant api (Some (hints_of before.settings)) ≡ Some info = ap (λ s. grant api (Some (hints_of s))) (sym h.settings) ∙ given in
    let parts : map (λ part. part.items) reader.parts.lines.items ≡ parts_of n before.items =
    h.parts.lines ∙ ap (λ o. parts_of (unwrap_or o 0) before.items) said in
    let has : before.api ≡ Some api = sym h.header ∙ header in
    ap (λ o. elim o as (λ _. Result Script Refusal) [ None ↦ Err (0, why.Header) | Some named ↦ of_peers named count before before.settings.peers ]) has
    ∙ (ap (of_peers api count before) said ∙ (ap (granted api count before n) grants
    ∙ (ap (λ s. Ok (script_with api (conf_of s n info) before.payloads (parts_of n before.items))) (sym h.settings)
    ∙ (ap (λ p. Ok (script_with api (conf_of reader.settings n info) p (parts_of n before.items))) (sym h.payloads)
    ∙ ap (λ l. Ok (script_with api (conf_of reader.settings n info) reader.payloads.items l)) (sym parts)))))

pub script_not_granted : (api : Api) (count n : ℕ) (reader : Reader) (before : Before) → Holds reader before → reader.api ≡ Some api → reader.settings.peers ≡ Some n → grant api (Some (hints_of reader.settings)) ≡ None → script_said count before ≡ Err (count, why.NoData)
unfolding script_said
script_not_granted api count n reader before h header peers given =
    let said : before.settings.peers ≡ Some n = ap (λ s. s.peers) (sym h.settings) ∙ peers in
    let grants : grant api (Some (hints_of before.settings)) ≡ None = ap (λ s. grant api (Some (hints_of s))) (sym h.settings) ∙ given in
    let has : before.api ≡ Some api = sym h.header ∙ header in
    ap (λ o. elim o as (λ _. Result Script Refusal) [ None ↦ Err (0, why.Header) | Some named ↦ of_peers named count before before.settings.peers ]) has ∙ (ap (of_peers api count before) said ∙ ap (granted api count before n) grants)

pub script_without_peers : (api : Api) (count : ℕ) (reader : Reader) (before : Before) → Holds reader before → reader.api ≡ Some api → reader.settings.peers ≡ None → script_said count before ≡ Err (count, why.Missing)
unfolding script_said
script_without_peers api count reader before h header peers =
    let said : before.settings.peers ≡ None = ap (λ s. s.peers) (sym h.settings) ∙ peers in
    rw (sym h.header, header, said) refl

line_refused : (before : Before) (number : ℕ) (line : List ℕ) (lines : List (List ℕ)) (why : Why) → why_of before number line ≡ Some why → read_lines before number (line ∷ lines) ≡ Err (number, why)
unfolding read_lines
line_refused before number line lines why e = rw (e, read_lines) refl

pub progress_none : (bytes : List ℕ) (left : ℕ × List (List ℕ)) (reader : Reader) → left ≡ (0, lines_of bytes) → Holds reader nothing → Progress bytes left reader
progress_none bytes left reader e h = record {
  before = nothing;
  holds = h;
  rest = ap (λ l. read_lines nothing (l.0 + 1) l.1) (sym e);
  count = omega (arith, ap (λ l. l.0) e, ap (λ l. length l.1) e);
  few = omega (arith, ap (λ l. l.0) e);
}

number_next : (number left next : ℕ) → number ≡ left + 1 → next ≡ left + 1 → number + 1 ≡ next + 1
number_next number left next n m = omega arith

few_lines : (left number next : ℕ) → number ≡ left + 1 → next ≡ left + 1 → is_late number ≡ false → next ≤ 100000
few_lines left number next n m late =
    let few = below number late in
    omega arith

-- a line that is taken, one that is refused, and the end
pub progress_taken : (bytes : List ℕ) (left next : ℕ × List (List ℕ)) (old new : Reader) (number : ℕ) (line : List ℕ) (p : Progress bytes left old) → number ≡ left.0 + 1 → next.0 ≡ left.0 + 1 → left.1 ≡ line ∷ next.1 → Answers (why_of p.before number line) (with_line p.before number line) new (Ok tt) → Progress bytes next new
progress_taken bytes left next old new number line p n m lines answer = by_rule (why_of p.before number line) refl answer
  where
    by_rule : (rules : Option Why) → why_of p.before number line ≡ rules → Answers rules (with_line p.before number line) new (Ok tt) → Progress bytes next new
    by_rule (Some why) e a = absurd a
    by_rule None e a = record {
      before = with_line p.before number line;
      holds = a;
      rest = p.rest ∙ (ap (λ k. read_lines p.before k left.1) (sym n) ∙ (ap (read_lines p.before number) lines
          ∙ (line_taken p.before number line next.1 e ∙ ap (λ k. read_lines (with_line p.before number line) k next.1) (number_next number left.0 next.0 n m))));
      count = omega (arith, p.count, ap length lines);
      few = few_lines left.0 number next.0 n m (in_time p.before number line e);
    }

pub progress_refused : (bytes : List ℕ) (left : ℕ × List (List ℕ)) (rest : List (List ℕ)) (old new : Reader) (number : ℕ) (line : List ℕ) (why : Why) (p : Progress bytes left old) → number ≡ left.0 + 1 → left.1 ≡ line ∷ rest → Answers (why_of p.before number line) (with_line p.before number line) new (Err (Because why)) → verdict bytes ≡ Err (number, why)
unfolding verdict
progress_refused bytes left rest old new number line why p n lines answer = by_rule (why_of p.before number line) refl answer
  where
    by_rule : (rules : Option Why) → why_of p.before number line ≡ rules → Answers rules (with_line p.before number line) new (Err (Because why)) → verdict bytes ≡ Err (number, why)
    by_rule None e a = absurd a
    by_rule (Some given) e a =
        let all = p.rest ∙ (ap (λ k. read_lines p.before k left.1) (sym n) ∙ (ap (read_lines p.before number) lines ∙ line_refused p.before number line rest given e)) in
        ap (then_script (length (lines_of bytes))) all ∙ ap (λ w. Err (number, w)) (sym a)

pub progress_done : (bytes : List ℕ) (left : ℕ × List (List ℕ)) (reader : Reader) (p : Progress bytes left reader) → left.1 ≡ [] → verdict bytes ≡ script_said left.0 p.before
unfolding verdict
progress_done bytes left reader p none =
    let all = p.rest ∙ (ap (read_lines p.before (left.0 + 1)) none ∙ no_line p.before (left.0 + 1)) in
    let count : length (lines_of bytes) ≡ left.0 = omega (arith, p.count, ap length none) in
    ap (then_script (length (lines_of bytes))) all ∙ ap (λ n. script_said n p.before) count
