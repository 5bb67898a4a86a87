-- The records of a segment may be written as one block of the latest version: the metadata of their entries is short,
-- and their text is at most twice as long as the segment.
use Rattle.std.proofs.Common.{ℕ, ◌+◌, ◌*◌, ◌≤◌, List, [], ◌∷◌, ◌++◌, length, sym, ap, subst, arith, length-append}
use Rattle.std.specs.List.{flat_map, AllByRecursion}
use Rattle.std.proofs.lemmas.List.Concat.{flat_map-append}
use Rattle.pairs.specs.Labels.{Label}
use Rattle.pairs.specs.Metas.{is_short_meta}
use Rattle.entries.specs.declared.entry.Entry.{Entry}
use Rattle.segment.specs.declared.version.Version.{Version}
use Rattle.segment.specs.declared.version.Version.TheVariants.{One, Two}
use Rattle.segment.specs.declared.header.Header.{Header}
use Rattle.segment.specs.ShardPlaces.{ShardPlace}
use Rattle.segment.specs.declared.record.Record.{Record}
use Rattle.segment.specs.declared.record.Record.TheVariants.{Append, Trim, State}
use Rattle.segment.specs.Versions.{latest}
use Rattle.segment.specs.Spelling.{number, behind_line, entry, record_text, payload, frame, FitsMetaOf, FitsEntry, FitsRecord, IsShortEntry, AreShort, IsShortRecord}
use Rattle.segment.specs.Segments.{header, blocks, all_of, Stand, IsSegment}
use Rattle.segment.proofs.Lengths.{length-entry_of, length-entries, length-append_text, length-state_text}
use Rattle.segment.proofs.PartWrites.{all_both}

short_entry : (v : Version) (e : Entry) → FitsEntry v e → IsShortEntry e
short_entry One e h = ap is_short_meta h.behind
short_entry Two e h = h.behind.short

-- an entry of version 1 has one byte more in the latest: the number of its pairs
longer_behind : (v : Version) (ps : List Label) → FitsMetaOf v ps → length (behind_line latest ps) ≤ 1 + length (behind_line v ps)
longer_behind One ps h = omega (arith, ap (λ qs. length (behind_line latest qs)) h)
longer_behind Two ps h = omega arith

longer_entry : (v : Version) (e : Entry) → FitsEntry v e → length (entry latest e) ≤ 2 * length (entry v e)
longer_entry v e h = omega (arith, longer_behind v e.meta h.behind, length-entry_of latest e, length-entry_of v e)

entries_anew : (v : Version) (es : List Entry) → AllByRecursion (FitsEntry v) es → AreShort es × (length (flat_map (entry latest) es) ≤ 2 * length (flat_map (entry v) es))
entries_anew v [] h = (tt, omega arith)
entries_anew v (e ∷ es) h =
    let left = entries_anew v es h.1 in (
      (short_entry v e h.0, left.0),
      omega (arith, left.1, longer_entry v e h.0, length-append (entry latest e) (flat_map (entry latest) es), length-append (entry v e) (flat_map (entry v) es)),
    )

record_anew : (v : Version) (owner : ShardPlace) (r : Record) → FitsRecord v owner r → IsShortRecord r × (length (record_text latest r) ≤ 2 * length (record_text v r))
record_anew v owner (Append k es) h =
    let all = entries_anew v es h.1.each in
    (all.0, omega (arith, all.1, length-append_text latest k es, length-append_text v k es, length-entries latest es, length-entries v es))
record_anew v owner (Trim k bound) h = (tt, omega arith)
record_anew v owner (State k highest last es) h =
    let all = entries_anew v es h.1.fit_entries.each in (
      (short_entry v last h.1.fits_last, all.0),
      omega (arith, all.1, longer_entry v last h.1.fits_last, length-state_text latest k highest last es, length-state_text v k highest last es, length-entries latest es, length-entries v es),
    )

block_anew : (v : Version) (owner : ShardPlace) (rs : List Record) → AllByRecursion (FitsRecord v owner) rs → AllByRecursion IsShortRecord rs × (length (payload latest rs) ≤ 2 * length (payload v rs))
block_anew v owner [] h = (tt, omega arith)
block_anew v owner (r ∷ rs) h =
    let one = record_anew v owner r h.0 in
    let left = block_anew v owner rs h.1 in (
      (one.0, left.0),
      omega (arith, one.1, left.1, length-append (record_text latest r) (payload latest rs), length-append (record_text v r) (payload v rs)),
    )

blocks_anew : (v : Version) (owner : ShardPlace) (before groups : List (List Record)) → Stand v owner before groups → AllByRecursion IsShortRecord (all_of groups) × (length (payload latest (all_of groups)) ≤ 2 * length (blocks v groups))
blocks_anew v owner before [] s = (tt, omega arith)
blocks_anew v owner before (rs ∷ groups) s =
    let one = block_anew v owner rs s.0.each in
    let left = blocks_anew v owner (before ++ rs ∷ []) groups s.2 in (
      all_both IsShortRecord rs (all_of groups) one.0 left.0,
      omega (arith, one.1, left.1, ap length (flat_map-append (record_text latest) rs (all_of groups)), length-append (payload latest rs) (payload latest (all_of groups)), length-append (1 ∷ frame v rs) (blocks v groups), length-append (number 4 (length (payload v rs))) (payload v rs)),
    )

pub segment_anew : (owner : ShardPlace) (bytes : List ℕ) (g : Header) (rs : List Record) (end : ℕ) → IsSegment owner bytes g rs end → AllByRecursion IsShortRecord rs × (length (payload latest rs) ≤ 2 * length bytes)
segment_anew owner bytes g rs end s =
    let groups : List (List Record) = s.first ∷ s.later in
    let all = blocks_anew g.version owner [] groups s.front.stand in
    subst (λ qs. AllByRecursion IsShortRecord qs × (length (payload latest qs) ≤ 2 * length bytes)) (sym s.records)
    (all.0, omega (arith, all.1, ap length s.front.spelled, length-append (header owner g) (blocks g.version groups ++ s.gate ∷ s.rest), length-append (blocks g.version groups) (s.gate ∷ s.rest)))
