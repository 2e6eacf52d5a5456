-- The bins in which receives and messages are filed.
--     bin heads class tag source                     the bin of such a key, one of so many
--     exact_bin heads tagged tag source              by kind, tag and source; an untagged message has no tag
--     open_bin heads tagged tag, masked_bin heads    by kind and tag; of receives whose tag is masked
--     filing_of heads want                              where the messages stand that the receive may take
--     bin_of heads want                              the bin in which the receive stands
--     is_loose want                                  the receive masks its tag, or takes from any source
use Rattle.std.specs.Prelude.{ℕ, ◌+◌, ◌*◌, ◌/◌, ◌%◌, ◌^◌, ◌<◌, ◌==◌, ◌&&◌, ◌||◌, Bool, true, false, not, Option, Some, None, is_none}
use Rattle.fab_base.specs.declared.items.Want.{Want}
use Rattle.fab_match.specs.declared.bins.Filing.{Filing}
use Rattle.fab_match.specs.declared.bins.Filing.TheVariants.{Exact, Open, Masked}

-- the upper half of a sum of products, which spreads keys that differ little, scaled to the number of heads
unfoldable pub bin : ℕ → ℕ → ℕ → ℕ → ℕ
bin heads class tag source =
    let tags = (tag * 0x9e37_79b9_7f4a_7c15) % 2 ^ 64 in
    let sources = (source * 0xc2b2_ae3d_27d4_eb4f) % 2 ^ 64 in
    let classes = (class * 0x1656_67b1_9e37_79f9) % 2 ^ 64 in
    ((((((tags + sources) % 2 ^ 64) + classes) % 2 ^ 64) / 2 ^ 32) * heads) / 2 ^ 32

abbrev pub exact_bin : ℕ → Bool → ℕ → ℕ → ℕ
exact_bin heads true tag source = bin heads 1 tag source
exact_bin heads false tag source = bin heads 2 0 source

abbrev pub open_bin : ℕ → Bool → ℕ → ℕ
open_bin heads true tag = bin heads 3 tag 0
open_bin heads false tag = bin heads 4 0 0

abbrev pub masked_bin : ℕ → ℕ
masked_bin heads = bin heads 5 0 0

-- by whether the tag is masked
abbrev pub filing_by : ℕ → Bool → Bool → ℕ → Option ℕ → Filing
filing_by heads true tagged tag source = Masked
filing_by heads false tagged tag (Some source) = Exact (exact_bin heads tagged tag source)
filing_by heads false tagged tag None = Open (open_bin heads tagged tag)

abbrev pub filing_of : ℕ → Want → Filing
filing_of heads want = filing_by heads (want.tagged && not (want.ignore == 0)) want.tagged want.tag want.source

abbrev pub is_loose : Want → Bool
is_loose want = (want.tagged && not (want.ignore == 0)) || is_none want.source

abbrev pub bin_in : ℕ → Filing → ℕ
bin_in heads (Exact bin) = bin
bin_in heads (Open bin) = bin
bin_in heads Masked = masked_bin heads

abbrev pub bin_of : ℕ → Want → ℕ
bin_of heads want = bin_in heads (filing_of heads want)

abbrev pub AreWithin : ℕ → Filing → Type 0
AreWithin heads (Exact bin) = bin < heads
AreWithin heads (Open bin) = bin < heads
AreWithin heads Masked = Unit {0}
