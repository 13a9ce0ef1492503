-- What the commands of a run have made, and what each line prints.
use Rattle.std.specs.Prelude.{ℕ, List, [], ℤ, Some, None, Ok, Err, Option, Result, unsigned_abs}
use Rattle.std.specs.List.{flat_map}
use Rattle.refusal.specs.declared.Refusal.{Refusal}
use Rattle.records.specs.declared.raw.EdgeRecord.{EdgeRecord}
use Rattle.records.specs.declared.raw.SiteRecord.{SiteRecord}
use Rattle.records.specs.declared.raw.Point.{Point}
use Rattle.records.specs.Held.{put_in, taken_out, remove_refusal}
use Rattle.records.specs.Outcome.{unless_refused}
use Rattle.zones.specs.Edges as edges
use Rattle.zones.specs.Question as point
use Rattle.zones.specs.Register as zone_register
use Rattle.sites.specs.Site as sites
use Rattle.sites.specs.Question as rectangle
use Rattle.sites.specs.Register as site_register
use Rattle.slabs.specs.Topmost.{zone_at}
use Rattle.digest.specs.Hashing.{hashed}
use Rattle.sha256.specs.Standard.{sha256}
use Rattle.blake2s.specs.Standard.{blake2s}
use Rattle.hex_text.specs.Hex.{bytes_in}
use Rattle.byte_commands.specs.Asked.{Asked, digest}
use Rattle.byte_commands.specs.Lines.{line_of_digest}
use Rattle.byte_commands.specs.Read.{read_byte_command}
use Rattle.script.specs.Command.{read_command}
use Rattle.script.specs.declared.command.HashName.{HashName}
use Rattle.script.specs.declared.command.HashName.TheVariants.{Sha256, Blake2s}
use Rattle.script.specs.Lines.{ended, line_of, line_of_edge, line_of_site, line_of_sites, line_of_unknown}
use Rattle.script.specs.declared.command.ChartKind.{ChartKind}
use Rattle.script.specs.declared.command.ChartKind.TheVariants.{Zone, Site}
use Rattle.script.specs.declared.command.Command.{Command}
use Rattle.script.specs.declared.command.Command.TheVariants.{Begin, AddEdge, AddSite, Remove, AnswerZone, AnswerSites, List as Records, Blank}
use Rattle.script.specs.declared.reply.Reply.{Reply}
use Rattle.script.specs.declared.reply.Reply.TheVariants.{Begun, Added, Removed, InZone, Refused}
use Rattle.chart.specs.declared.session.Session.{Session}

-- The chart kind at hand, and the records held of each kind.
pub record State : Type 0 where
  pub kind : ChartKind
  pub edges : List EdgeRecord
  pub sites : List SiteRecord

abbrev pub state_of : Session → State
state_of s = record { kind = s.kind; edges = zone_register.held s.edges; sites = site_register.held s.sites }

-- The reply of a call that is done, or its refusal.
abbrev pub replied : Option Refusal → Reply → Reply
replied None done = done
replied (Some refusal) done = Refused refusal

abbrev pub reply_of : Result (Unit {0}) Refusal → Reply → Reply
reply_of (Ok _) done = done
reply_of (Err refusal) done = Refused refusal

-- Why the call of a command is refused, by the records of its chart kind.
abbrev pub removal : ChartKind → State → ℤ → Option Refusal
removal Zone s n = remove_refusal edges.number_of s.edges n
removal Site s n = remove_refusal sites.number_of s.sites n

abbrev pub zone_reply : State → Point → Reply
zone_reply s p = replied (point.question_refusal p) (InZone (unsigned_abs (zone_at s.edges p.x p.y)))

abbrev pub sites_line : Option Refusal → List ℕ → List ℕ
sites_line None numbers = line_of_sites numbers
sites_line (Some refusal) numbers = line_of (Refused refusal)

abbrev pub listed : ChartKind → State → List ℕ
listed Zone s = flat_map (λ e. ended (line_of_edge e)) s.edges
listed Site s = flat_map (λ r. ended (line_of_site r)) s.sites

-- What a command prints.
abbrev pub printed : State → Command → List ℕ
printed s (Begin kind hash) = ended (line_of (Begun kind hash))
printed s (AddEdge e) = ended (line_of (replied (edges.add_refusal s.edges e) (Added e.number)))
printed s (AddSite r) = ended (line_of (replied (sites.add_refusal s.sites r) (Added r.number)))
printed s (Remove n) = ended (line_of (replied (removal s.kind s n) (Removed n)))
printed s (AnswerZone p) = ended (line_of (zone_reply s p))
printed s (AnswerSites q) = ended (sites_line (rectangle.question_refusal q) (rectangle.sites_in s.sites q))
printed s Records = listed s.kind s
printed s Blank = []

-- What a command leaves.
abbrev pub with_edges : State → List EdgeRecord → State
with_edges s held = record { kind = s.kind; edges = held; sites = s.sites }

abbrev pub with_sites : State → List SiteRecord → State
with_sites s held = record { kind = s.kind; edges = s.edges; sites = held }

abbrev pub without : ChartKind → State → ℤ → State
without Zone s n = with_edges s (unless_refused (removal Zone s n) (taken_out edges.number_of n s.edges) s.edges)
without Site s n = with_sites s (unless_refused (removal Site s n) (taken_out sites.number_of n s.sites) s.sites)

abbrev pub left : State → Command → State
left s (Begin kind hash) = record { kind = kind; edges = []; sites = [] }
left s (AddEdge e) = with_edges s (unless_refused (edges.add_refusal s.edges e) (put_in edges.number_of e s.edges) s.edges)
left s (AddSite r) = with_sites s (unless_refused (sites.add_refusal s.sites r) (put_in sites.number_of r s.sites) s.sites)
left s (Remove n) = without s.kind s n
left s (AnswerZone p) = s
left s (AnswerSites q) = s
left s Records = s
left s Blank = s

-- The function that a hash's name stands for.
abbrev pub function_of : HashName → List ℕ → List ℕ
function_of Sha256 = sha256
function_of Blake2s = blake2s

abbrev pub hashed_line : Result (List ℕ) Refusal → List ℕ
hashed_line (Ok bytes) = line_of_digest bytes
hashed_line (Err refusal) = line_of (Refused refusal)

-- What the digest of a message, given in hex, prints.
abbrev pub digest_line : HashName → List ℕ → List ℕ
digest_line hash message = hashed_line (hashed (function_of hash) (bytes_in message))

-- A line that is no command is unknown and prints itself.
abbrev pub printed_with_bytes : List ℕ → Option Asked → List ℕ
printed_with_bytes line None = ended (line_of_unknown line)
printed_with_bytes line (Some (digest hash message)) = ended (digest_line hash message)

-- The same of a line. A command that carries bytes leaves all as it was, as does a line that is unknown.
abbrev pub printed_of : State → List ℕ → Option Command → List ℕ
printed_of s line None = printed_with_bytes line (read_byte_command line)
printed_of s line (Some command) = printed s command

abbrev pub left_of : State → Option Command → State
left_of s None = s
left_of s (Some command) = left s command

abbrev pub printed_for : State → List ℕ → List ℕ
printed_for s line = printed_of s line (read_command s.kind line)

abbrev pub left_by : State → List ℕ → State
left_by s line = left_of s (read_command s.kind line)
