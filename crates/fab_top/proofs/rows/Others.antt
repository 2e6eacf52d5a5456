-- Texts that no run of the script of one tagged message writes, where files are told: a wrong byte, the report of a schedule that is not lawful, of another schedule than its trace
-- lines tell, or of one that ends before rest.
--     NoRunWrites text     no run of this script writes the text
use Rattle.std.proofs.Common.{◌≡◌, ◌∙◌, ℕ, Bool, List, [], Option, Some, sym, subst}
use Rattle.fab_base.specs.declared.script.Bound.{Bound}
use Rattle.fab_model.proofs.Scripts.{Shows}
use Rattle.fab_model.proofs.refused.Reports.{item_not_sent, item_not_sent_refused, line_not_done, line_not_done_refused, line_too_few, line_too_few_refused, line_too_many, line_too_many_refused, read_too_few, read_too_few_refused, script, wrong_byte, wrong_byte_refused}
use Rattle.fab_outside.specs.Commands.{script_file}
use Rattle.fab_outside.specs.Loading.{IsRead}
use Rattle.fab_top.specs.Runs.{IsReport, IsWritten, Reports}
use Rattle.fab_top.proofs.Sticking.{same_bound}

pub shows : (bound : Bound) (text : List ℕ) (done : Bool) → Reports bound text done → Shows bound text
shows bound text done reports = record { report_is = sym reports.text_is; lawful = reports.lawful; rest = reports.rest }

-- the words name a file that is told, and it spells this script
pub writes_shows : (f : List ℕ → Option (List ℕ)) (words : List (List ℕ)) (file : List ℕ) (bound : Bound) (text : List ℕ) (done : Bool) → script_file words ≡ Some file → IsRead (Some f) file bound
    → IsWritten (IsReport (Some f) words done) (Some []) (Some text) → Shows bound text
writes_shows f words file bound text done command read writes =
    let same : writes.is.file ≡ file = (let e : Some writes.is.file ≡ Some file = sym writes.is.command ∙ command in cc) in
    let is : writes.is.bound ≡ bound = same_bound f file writes.is.bound bound (subst (λ (x : List ℕ). IsRead (Some f) x writes.is.bound) same writes.is.read) read in
    let told : writes.text ≡ text = (let e : Some text ≡ Some writes.text = writes.written in cc) in
    subst (λ (x : List ℕ). Shows bound x) told (subst (λ (b : Bound). Shows b writes.text) is (shows writes.is.bound writes.text done writes.is.reports))

abbrev pub NoRunWrites : List ℕ → Type 0
NoRunWrites text =
    (f : List ℕ → Option (List ℕ)) (words : List (List ℕ)) (file : List ℕ) (done : Bool) → script_file words ≡ Some file → IsRead (Some f) file script → IsWritten (IsReport (Some f) words done) (Some []) (Some text) → ⊥

pub not_shown : (text : List ℕ) → (Shows script text → ⊥) → NoRunWrites text
not_shown text refused f words file done command read writes = refused (writes_shows f words file script text done command read writes)

pub no_wrong_byte : NoRunWrites wrong_byte
no_wrong_byte = not_shown wrong_byte wrong_byte_refused

pub no_line_too_many : NoRunWrites line_too_many
no_line_too_many = not_shown line_too_many line_too_many_refused

pub no_item_not_sent : NoRunWrites item_not_sent
no_item_not_sent = not_shown item_not_sent item_not_sent_refused

-- the results of one schedule over the trace lines of another
pub no_line_too_few : NoRunWrites line_too_few
no_line_too_few = not_shown line_too_few line_too_few_refused

pub no_line_not_done : NoRunWrites line_not_done
no_line_not_done = not_shown line_not_done line_not_done_refused

pub no_read_too_few : NoRunWrites read_too_few
no_read_too_few = not_shown read_too_few read_too_few_refused
