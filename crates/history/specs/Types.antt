-- The types that histories speak of, with their constructors, passed on from one place. Declares nothing.
pub use Rattle.accept.specs.Rooms.{Streams}
pub use Rattle.accept.specs.declared.limits.Limits.{Limits}
pub use Rattle.accept.specs.declared.call.Call.{Call}
pub use Rattle.accept.specs.declared.call.Call.TheVariants.{Push, Read, Trim}
pub use Rattle.accept.specs.declared.call.Reply.{Reply}
pub use Rattle.accept.specs.declared.call.Reply.TheVariants.{Verdict, Entries, Trimmed, TrimTooNew, NoStream, NoRoom, Unavailable}
pub use Rattle.accept.specs.declared.history.Ask.{Ask}
pub use Rattle.accept.specs.declared.history.Step.{Step}
pub use Rattle.accept.specs.declared.history.Item.{Item}
pub use Rattle.accept.specs.declared.history.Item.TheVariants.{Answered, Failed}
pub use Rattle.accept.specs.declared.history.History.{History}
pub use Rattle.history.specs.declared.views.About.{About}
pub use Rattle.history.specs.declared.views.Caller.{Caller}
pub use Rattle.history.specs.declared.views.Shelf.{Shelf}
pub use Rattle.history.specs.declared.views.View.{View}
pub use Rattle.history.specs.declared.views.Role.{Role}
pub use Rattle.history.specs.declared.views.Role.TheVariants.{Nobody, Opener, Keeps, Calls}
pub use Rattle.history.specs.declared.views.Token.{Token}
pub use Rattle.history.specs.declared.views.Token.TheVariants.{Nothing, Open, Done}
