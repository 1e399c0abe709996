-- The words that all crates share, passed on from one place, by subject. Declares nothing.
use Rattle.im_types.specs.declared
-- Operations on cells, their answers, and what is kept of them.
pub use declared.operations.{Entry.Entry, Kind.Kind, Op.Op, Reply.Reply, Waiter.Waiter, Block.Block, Kept.Kept}
pub use declared.operations.Entry.TheVariants.{Waiting, Answered}
pub use declared.operations.Kind.TheVariants.{I, M}
pub use declared.operations.Op.TheVariants.{Alloc, Release, Reset, Fetch, Store, Take, Put}
pub use declared.operations.Reply.TheVariants.{Base, NoSpace, BadLength, Value, Stored, Clash, NoCell, WrongKind}
pub use declared.operations.Reply.TheVariants.{Released, NoBlock, StillWaiting, Cleared}
-- Commands, calls, and what they come to.
pub use declared.commands.{Request.Request, Command.Command, Outcome.Outcome, Judged.Judged, Call.Call, Line.Line}
pub use declared.commands.Command.TheVariants.{Request as Asks, Confirm}
pub use declared.commands.Outcome.TheVariants.{Entry as Tells, Confirmed}
pub use declared.commands.Judged.TheVariants.{Fresh, Repeat}
pub use declared.commands.Call.TheVariants.{Command as Commands, Collect}
pub use declared.groups.{Served.Served}
pub use declared.groups.Served.TheVariants.{Unserved, Done, Refused}
-- Why a call is refused, by name and by number.
pub use declared.refusals.{Refusal.Refusal}
pub use declared.refusals.Refusal.TheVariants.{Gap, Forgotten, WindowFull, Mismatch, NoElement, NotAnswered}
pub use declared.refusals.Refusal.TheVariants.{JournalFull, Device, Failed, NoMemory, TraceFull, WrongLength, NoHeader}
pub use declared.refusals.Refusal.TheVariants.{BadHeader, BadPage, BadRecord, BadLimits, BadScript, Stalled, OffPlan}
pub use declared.refusals.Refusal.TheVariants.{OldVersion, NotBlank, BadPlan, PaneGone}
pub use Rattle.im_types.specs.Refusals.{number_of, is_of_numbers}
-- How large a memory is.
pub use declared.TheConstants.{MAX_CELLS, MAX_ELEMENTS, MIN_SLOTS, MAX_SLOTS, MAX_GROUP, WINDOW, LAST, NONE}
pub use declared.sizes.{Limits.Limits}
pub use Rattle.im_types.specs.Sizes.{AreLimits}
-- The contents of a memory: cells, blocks, and windows of kept entries.
pub use Rattle.im_types.specs.Contents.{CellState, Empty, Full, Clashed, Held, Window, Contents, new_window, held_at}
pub use Rattle.im_types.specs.Contents.{waiters_of, waiters_in, waiters_at, kept_under, kept_for, full_value, full_in}
pub use Rattle.im_types.specs.Contents.{full_at, block_at, HasBlocks}
unfoldable pub use Rattle.im_types.specs.Contents.{empty_contents}
pub use Rattle.im_types.specs.Presences.{presence_of, presence_in}
pub use Rattle.im_types.specs.Memory.{IsWindow, IsMemory}
pub use Rattle.im_types.specs.Agreement.{same_waiter, times, awaiting, waits_for, waits_in, address_of, WaitersAgree}
pub use Rattle.im_types.specs.Agreement.{WaitingAgrees, StaysOrIsAnswered, drops, KeepsEntries}
pub use declared.cells.{Cell.Cell}
pub use declared.cells.Cell.TheVariants.{Empty as CellEmpty, Waiting as CellWaiting, Full as CellFull}
pub use declared.cells.Cell.TheVariants.{Clashed as CellClashed}
-- One operation on the cells.
pub use Rattle.im_types.specs.Place.{begins_free, is_free, place, fill, change_each, IsLeastFree}
pub use Rattle.im_types.specs.Act.{Served as ServedCell, tells, defers, fetch, store, take_from, put, Acted, only_tells}
pub use Rattle.im_types.specs.Act.{same_kind, serve_cell, at_cell, new_cell, allocate_at, allocate, block_with_base}
pub use Rattle.im_types.specs.Act.{has_waiter, is_waiting_cell, unless_waited_for, release_block, emptied, reset_block}
pub use Rattle.im_types.specs.Act.{act}
-- One command, and commands one after another.
pub use Rattle.im_types.specs.Window.{next_number, same_op, judge_number, judge_window, judge, with_window, note_in}
pub use Rattle.im_types.specs.Window.{note, answer_at, answer_in, answer, answer_each, is_waiting_entry, is_waiting}
pub use Rattle.im_types.specs.Window.{confirm_window, ask_number, ask_window, ask, bounds_of, bounds}
pub use Rattle.im_types.specs.Step.{Stepped, asker, serve, step_request, step_confirm, step, is_fresh, moves_base}
pub use Rattle.im_types.specs.Step.{is_accepted, unless_refused, acceptance}
pub use Rattle.im_types.specs.Run.{after, accepted, answers}
pub use Rattle.im_types.specs.Groups.{no_request, AreOthers, AreApart, as_served, is_new, is_put, with_request}
pub use Rattle.im_types.specs.Groups.{answer_of, reached_by_one, answers_of, reached_by_all, puts_of}
-- Whole histories: laws, plans, traces, and changes of the full cells.
pub use Rattle.im_types.specs.History.{Event, event_of, events, releases, clears, ends_life, until_end, Life, life_of}
pub use Rattle.im_types.specs.History.{lives_by_reset, lives_from, lives, latest, last_kept, last_entry, value_stored}
pub use Rattle.im_types.specs.History.{value_put, is_take, stores, puts, takes, value_or_waiting, entry_of_fetch}
pub use Rattle.im_types.specs.History.{has_clash, entry_of_take, entry_of_put, lawful_entry, EachAfter, IsLawfulLife}
pub use Rattle.im_types.specs.History.{ValueLaw, MatchingLaw}
pub use Rattle.im_types.specs.Plan.{stored_by, planned_value, fetched, in_block, result_of, is_planned, IsPlan}
pub use Rattle.im_types.specs.Plan.{FitsPlan}
pub use Rattle.im_types.specs.Trace.{told, answer_to, contents_after, IsLegal, end_of}
pub use Rattle.im_types.specs.Changes.{is_among, changed, value_after, is_below, store_change, store_change_in}
pub use Rattle.im_types.specs.Changes.{emptying_change, change_of, change_by, changes_at, changes_in, changes_of}
pub use Rattle.im_types.specs.Changes.{fill_at, fills_from, opening, shown_by}
pub use declared.changes.{Change.Change}
pub use declared.changes.Change.TheVariants.{Full as Fills, Same, Gone}
-- The bytes of an image.
pub use declared.layout.{Version.Version}
pub use declared.layout.Version.TheVariants.{One, Two}
pub use Rattle.im_types.specs.Layout.{Layout, layout_1, layout_2, layout_of, layout_named, layout_in_use, Sizes}
pub use Rattle.im_types.specs.Layout.{sizes_of, are_sizes, page_bytes, cell_record_bytes, node_record_bytes}
pub use Rattle.im_types.specs.Layout.{session_record_bytes, node_count, on_a_page, pages_for, cell_pages, node_pages}
pub use Rattle.im_types.specs.Layout.{session_pages, area_pages, area_bytes, area_at, journal_at, image_length, ring_of}
pub use Rattle.im_types.specs.Layout.{area_of, cell_part, node_part, session_part, record_at}
pub use Rattle.im_types.specs.Bytes.{open_gate, zeros, same_bytes, number_at, op_code, op_value, entry_code}
pub use Rattle.im_types.specs.Bytes.{entry_number, kind_code, FitsOp, FitsEntry}
pub use Rattle.im_types.specs.Header.{Header, header_body, header_in, is_header, spells_header, header_place}
pub use Rattle.im_types.specs.Header.{is_open_header, generation_in, is_second, number_in_force, place_in_force}
pub use Rattle.im_types.specs.Header.{are_ambiguous, place_fault, header_of, or_else, header_fault, layout_in, is_old}
pub use Rattle.im_types.specs.Slot.{slot_fields, slot_body, op_of, command_of, is_open, group_of, if_spelled_in}
pub use Rattle.im_types.specs.Slot.{read_slot, FitsCommand}
unfoldable pub use Rattle.im_types.specs.Slot.{sequence_of, command_in, read_in}
pub use Rattle.im_types.specs.Journal.{Ring, slot_offset, next_if, run_from, run, with_first, if_true, leads, member}
pub use Rattle.im_types.specs.Journal.{due_after, commands_in, is_boundary, IsBoundary, closed_from, are_stale, behind}
pub use Rattle.im_types.specs.Journal.{ends_stale, room_of, Tail, tail_if}
unfoldable pub use Rattle.im_types.specs.Journal.{slot, continues, tail}
-- The records of an area, and what an image means.
pub use declared.records.{PresenceTag.PresenceTag, CellRecord.CellRecord, NodeRecord.NodeRecord}
pub use declared.records.PresenceTag.TheVariants.{Empty as TagEmpty, Waiting as TagWaiting, Full as TagFull}
pub use declared.records.PresenceTag.TheVariants.{Clashed as TagClashed}
pub use declared.records.CellRecord.TheVariants.{Free as FreeCell, Held as BlockCell}
pub use declared.records.NodeRecord.TheVariants.{Listed as ListNode, Free as FreeNode}
pub use Rattle.im_types.specs.Records.{tag_code, tag_first, tag_last, tag_value, cell_bytes, node_bytes, IsLink}
pub use Rattle.im_types.specs.Records.{FitsTag, FitsCell, FitsNode, place_bytes, FitsPlace, entry_at, places_from}
pub use Rattle.im_types.specs.Records.{session_bytes, is_of_reset, has_room_for, FitsWindow}
pub use Rattle.im_types.specs.Chains.{first_of, last_of, ChainHolds, IsChain, HasNoChain, HasChain, HaveChains, bit}
pub use Rattle.im_types.specs.Chains.{uses, all_uses, is_listed, ShowLists}
pub use Rattle.im_types.specs.Pages.{Records, IsRow, SpellsArea, state_shown, cell_shown, cells_shown, ShowsRecords}
pub use Rattle.im_types.specs.Pages.{Shows}
pub use Rattle.im_types.specs.Meaning.{Reached, can_stand, accept_in, accept_each, reached_by, reached_after}
pub use Rattle.im_types.specs.Meaning.{read_journal, IsShown, Reads, OpensBy, Opens, Means}
