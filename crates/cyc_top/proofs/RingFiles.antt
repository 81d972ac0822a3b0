-- What a ring's file says is read of its text, a check accepts it, and it has 8 k + 1 nodes and one link.
use Rattle.std.proofs.Common.{◌≡◌, ℕ, ◌+◌, ◌*◌, ◌≤◌, List, [], length, Ok, Err, refl, sym, ap, ◌∙◌}
use Rattle.heap_syntax.specs.Versions.{limits}
use Rattle.heap_syntax.specs.declared.version.Version.TheVariants.{One}
use Rattle.cyc_lex.specs.declared.fault.ReadFault.{ReadFault}
use Rattle.cyc_lex.specs.declared.fault.ReadFault.TheVariants as faults
use Rattle.pred_defs.specs.Book.{DefinitionBook}
use Rattle.proof_file.specs.declared.file.ProofFile.{ProofFile}
use Rattle.proof_file.specs.Reading.{Reads}
use Rattle.proof_file.proofs.TextReadings.{text_read_again}
use Rattle.proof_check.specs.Verdicts.{Verdict}
use Rattle.logics.specs.declared.verdict.Verdict.TheVariants.{Accepted}
use Rattle.proof_check.specs.Verdicts.{IsVerdict}
use Rattle.ring_family.specs.Ring.{ring_definitions, ring_nodes, file_nodes}
use Rattle.ring_family.proofs.Accepted.{ring_is_accepted, ring_links}
use Rattle.ring_family.proofs.Correct.{nodes_long}
use Rattle.ring_family.proofs.Readable.{nodes_again}
use Rattle.proof_file.specs.Links.{is_link}
use Rattle.check_answers.specs.Answers.{link_count}
use Rattle.cyc_top.specs.Answers.{file_text}
use Rattle.cyc_top.specs.Rings.{IsRing}

-- the ring's file itself
pub whole_ring : (k : ℕ) (f : ProofFile) → f.defs ≡ record { most = limits One; list = ring_definitions k }
    → f.program ≡ []
    → f.nodes ≡ file_nodes (ring_nodes k) → IsRing k f
whole_ring k f defs program nodes =
    record {
      most = ap (λ (book : DefinitionBook). book.most) defs;
      definitions = ap (λ (book : DefinitionBook). book.list) defs;
      program = program;
      nodes = nodes;
    }

-- what is read of its text
pub read_ring_is : (k : ℕ) (f g : ProofFile) (text : List ℕ) → IsRing k f → text ≡ file_text f → Reads text (Ok g)
    → IsRing k g
read_ring_is k f g text ring e reads =
    let same = text_read_again f text (Ok g) e reads in
    record {
      most = sym same.most ∙ ring.most;
      definitions = sym same.definitions ∙ ring.definitions;
      program = sym same.program ∙ ring.program;
      nodes = sym same.nodes ∙ ring.nodes;
    }

-- nothing is at fault in it
pub read_ring_faultless : (f : ProofFile) (text : List ℕ) (fault : ReadFault) → text ≡ file_text f
    → Reads text (Err fault) → fault ≡ faults.OutOfMemory
read_ring_faultless f text fault e reads = text_read_again f text (Err fault) e reads

pub ring_accepted : (k : ℕ) (f : ProofFile) (v : Verdict) → 1 ≤ k → k ≤ 2000 → IsRing k f → IsVerdict f v → v ≡ Accepted
ring_accepted k f v one few ring is =
    ring_is_accepted k one few f ring.most ring.definitions ring.program (ring.nodes ∙ nodes_again (ring_nodes k)) v is

pub ring_node_count : (k : ℕ) (f : ProofFile) → IsRing k f → length f.nodes ≡ 8 * k + 1
ring_node_count k f ring = ap length ring.nodes ∙ nodes_long k

pub ring_link_count : (k : ℕ) (f : ProofFile) → IsRing k f → link_count f.nodes ≡ 1
ring_link_count k f ring = ap link_count ring.nodes ∙ ring_links is_link (λ rule. refl) (λ link. refl) k
