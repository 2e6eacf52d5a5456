-- What was heard in a program over lanes.
use Rattle.std.proofs.Common.{map, ap, ◌∙◌}
use Rattle.std.specs.Option.{option_map}
use Rattle.std.proofs.lemmas.Option.{slice_get-map}
use Rattle.fab_doings.specs.Heard.{HeardIsSaid}
use Rattle.fab_library_laws.specs.Hearing.{LibraryHears}
use Rattle.fab_library_laws.specs.Library.{opening_of, past_of}
use Rattle.fab_library_laws.proofs.Library.{since}

pub library_hears : HeardIsSaid → LibraryHears
library_hears law info selective all threads left run p q e f x y at_e at_x at_f at_y simple_x simple_y want mine chooses fit =
    law run.from (map opening_of all) (map past_of threads) run.run p q (opening_of e) (opening_of f) (past_of x) (past_of y) (slice_get-map opening_of all p ∙ ap (option_map opening_of) at_e) (slice_get-map past_of threads p ∙ ap (option_map past_of) at_x)
    (slice_get-map opening_of all q ∙ ap (option_map opening_of) at_f) (slice_get-map past_of threads q ∙ ap (option_map past_of) at_y) (since info selective all threads left.opened (λ r g t hg ht. (left.kept r g t hg ht).kept) p e x at_e at_x)
    (since info selective all threads left.opened (λ r g t hg ht. (left.kept r g t hg ht).kept) q f y at_f at_y) simple_x simple_y want mine chooses fit
