-- The way out of each key that Rundeck writes and that is not read.
use Rattle.std.specs.Prelude.{ℕ, List, [], ◌∷◌, codes}
use Rattle.rb_remarks.specs.Tables.{text_by}

abbrev pub ways : List (List ℕ × List ℕ)
ways =
    (codes "notification", codes "take it out; who waits for a run looks at its status")
    ∷ (
      codes "notifyAvgDurationThreshold",
      codes "take it out; who waits for a run looks at its status",
    )
    ∷ (codes "timeout", codes "take it out: no run is ended for its time")
    ∷ (codes "retry", codes "take it out: no run is tried again by itself")
    ∷ (codes "loglimit", codes "take it out: what a step writes has no bound")
    ∷ (codes "loglimitAction", codes "take it out: what a step writes has no bound")
    ∷ (codes "loglimitStatus", codes "take it out: what a step writes has no bound")
    ∷ (
      codes "maxMultipleExecutions",
      codes "take it out: multipleExecutions allows any number of runs, or one",
    )
    ∷ (codes "scriptfile", codes "paste the text of the file under script")
    ∷ (codes "scripturl", codes "paste the text of the file under script")
    ∷ (
      codes "expandTokenInScriptFile",
      codes "take it out: names between @ are replaced in each script",
    )
    ∷ (
      codes "scriptInterpreter",
      codes "take it out: sh reads a script, so start the other program in it",
    )
    ∷ (
      codes "fileExtension",
      codes "take it out: sh reads a script, so start the other program in it",
    )
    ∷ (
      codes "interpreterArgsQuoted",
      codes "take it out: sh reads a script, so start the other program in it",
    )
    ∷ (
      codes "type",
      codes "write exec or script for a plugin's step; an option is a text without it",
    )
    ∷ (codes "configuration", codes "write exec or script that does what the plugin's step does")
    ∷ (codes "nodeStep", codes "write exec or script that does what the plugin's step does")
    ∷ (codes "uuid", codes "take it out, and name the other job by its group and name")
    ∷ (codes "project", codes "take it out: jobs that refer to each other are of one project")
    ∷ (
      codes "nodefilters",
      codes "take it out: the steps of the other job run on the nodes of this one",
    )
    ∷ (
      codes "childNodes",
      codes "take it out: the steps of the other job run on the nodes of this one",
    )
    ∷ (
      codes "nodeIntersect",
      codes "take it out: the steps of the other job run on the nodes of this one",
    )
    ∷ (codes "failOnDisable", codes "take it out")
    ∷ (codes "ignoreNotifications", codes "take it out")
    ∷ (codes "importOptions", codes "take it out, and give each option under args")
    ∷ (codes "jobref", codes "write the command of the other job as exec or script")
    ∷ (codes "description", codes "write it at the command")
    ∷ (codes "secure", codes "take it out, and give the value at the run")
    ∷ (codes "valueExposed", codes "take it out, and give the value at the run")
    ∷ (
      codes "storagePath",
      codes "take it out, and give the value at the run: no store of keys is read",
    )
    ∷ (codes "valuesUrl", codes "take it out, and list under values what may be chosen")
    ∷ (codes "configRemoteUrl", codes "take it out, and list under values what may be chosen")
    ∷ (codes "isDate", codes "take it out, and let regex say how a date is written")
    ∷ (codes "dateFormat", codes "take it out, and let regex say how a date is written")
    ∷ (codes "multivalueAllSelected", codes "take it out, and write all of them under value")
    ∷ (codes "tags", codes "write filter: 'tags: ..' in its place")
    ∷ (codes "hostname", codes "write filter: 'hostname: ..' in its place")
    ∷ (codes "osFamily", codes "write filter: 'osFamily: ..' in its place")
    ∷ (codes "include", codes "write filter: 'tags: ..' in its place")
    ∷ (codes "filterExclude", codes "write filter: '!tags: ..' in its place")
    ∷ (codes "excludeFilterUncheck", codes "take it out")
    ∷ (codes "exclude", codes "write filter: '!tags: ..' in its place")
    ∷ (codes "plugins", codes "take it out: no plugin is run at a step")
    ∷ (codes "notBy", codes "write by for those who are meant, and deny for others")
    ∷ (codes "urn", codes "write group or username: those that it stands for")
    ∷ (codes "groups", codes "write group")
    ∷ (codes "users", codes "write username")
    ∷ []

-- what to write instead of a key that is not read
abbrev pub way_of : List ℕ → List ℕ
way_of key = text_by ways (codes "take it out") key
